-- The canonical text of a module is put together from its parts.
use Rattle.std.proofs.Common.{◌≡◌, ℕ, suc, ◌+◌, ◌^◌, ◌≤◌, Bool, true, false, cond, List, [], ◌∷◌, ◌++◌, length, refl, sym, ap, ◌∙◌, subst, arith, append-nil}
use Rattle.std.specs.Prelude.{Some, filter_map}
use Rattle.std.specs.List.{flat_map}
use Rattle.ir_lex.specs.Laws.{TokensAreUnique}
use Rattle.ir_lex.specs.Meaning.{Lexes}
use Rattle.ir_tree.specs.declared.types.Prof.{Prof}
use Rattle.ir_tree.specs.declared.types.Function.{Function}
use Rattle.ir_tree.specs.declared.types.Global1.{Global1}
use Rattle.ir_tree.specs.declared.types.Module.{Module}
use Rattle.ir_grammar.specs.Rules.{AreMany, spelled_once}
use Rattle.ir_grammar.specs.Words.{Tokens, any_left}
use Rattle.ir_grammar.specs.Notes.{Nodes, note, nodes_from}
use Rattle.ir_grammar.specs.Notes as grammar
use Rattle.ir_grammar.specs.Grammar.{part, variable_of, function_of, module_of, «module», Spells}
use Rattle.ir_grammar.specs.declared.parts.Part.{Part}
use Rattle.ir_grammar.specs.declared.parts.Part.TheVariants as parts
use Rattle.text_pieces.specs.Pieces.{Piece, text_of, tokens_before}
use Rattle.text_cuts.specs.Cut.{can_write_all, PiecesAreCut}
use Rattle.canonical_text.specs.Notes.{note_pieces, note_text, nodes_of}
use Rattle.canonical_text.specs.Canonical.{variable_pieces, definition_pieces, declaration_pieces, has_body, function_pieces, parted_line, later_function, functions_pieces, node_pieces, node_lines, nodes_pieces, has_any, module_pieces, canonical}
use Rattle.spellable.specs.Values.{Each}
use Rattle.spellable.specs.Instructions.{IsNote}
use Rattle.spellable.specs.Modules.{IsFunction, IsVariable, IsSpellable}
use Rattle.spellable.specs.Lines.{Follows, IsKept}
use Rattle.spellable.specs.Appends.{tokens_append, writes_append}
use Rattle.spellable.specs.Laws.{PartsAreSpelled}
use Rattle.printed_spells.specs.Laws.{SpellsText}
use Rattle.printed_spells.proofs.Numbering.{table, kept}
use Rattle.printed_spells.proofs.Collected.{module_notes, module_has}

-- # Tokens of pieces that stand one behind the other

-- the tokens of each of a list, in front of others
abbrev each_tokens : {A : Type 0} → (A → List Piece) → List A → Tokens → Tokens
each_tokens pieces [] others = others
each_tokens pieces (x ∷ xs) others = tokens_before (pieces x) (each_tokens pieces xs others)

flat_tokens : {A : Type 0} (pieces : A → List Piece) (xs : List A) (others : Tokens) → tokens_before (flat_map pieces xs) others ≡ each_tokens pieces xs others
flat_tokens pieces [] others = refl
flat_tokens pieces (x ∷ xs) others = tokens_append (pieces x) (flat_map pieces xs) others ∙ ap (tokens_before (pieces x)) (flat_tokens pieces xs others)

flat_writes : {A : Type 0} (pieces : A → List Piece) (Good : A → Type 0) → ((x : A) → Good x → can_write_all (pieces x) ≡ true) → (xs : List A) → Each Good xs → can_write_all (flat_map pieces xs) ≡ true
flat_writes pieces Good writes [] h = refl
flat_writes pieces Good writes (x ∷ xs) h = writes_append (pieces x) (flat_map pieces xs) (writes x h.0) (flat_writes pieces Good writes xs h.1)

module _ (list : List Prof) where
  line_tokens : (preceded : Bool) (ps : List Piece) (others : Tokens) → tokens_before (parted_line preceded ps) others ≡ tokens_before ps others
  line_tokens true ps others = refl
  line_tokens false ps others = refl

  later_tokens : (fs : List Function) (others : Tokens) → each_tokens (later_function list) fs others ≡ each_tokens (function_pieces list) fs others
  later_tokens [] others = refl
  later_tokens (f ∷ fs) others = ap (tokens_before (function_pieces list f)) (later_tokens fs others)

  functions_tokens : (preceded : Bool) (fs : List Function) (others : Tokens) → tokens_before (functions_pieces list preceded fs) others ≡ each_tokens (function_pieces list) fs others
  functions_tokens preceded [] others = refl
  functions_tokens preceded (f ∷ fs) others =
      tokens_append (parted_line preceded (function_pieces list f)) (flat_map (later_function list) fs) others
      ∙ line_tokens preceded (function_pieces list f) (tokens_before (flat_map (later_function list) fs) others)
      ∙ ap (tokens_before (function_pieces list f)) (flat_tokens (later_function list) fs others ∙ later_tokens fs others)

  line_writes : (preceded : Bool) (ps : List Piece) → can_write_all ps ≡ true → can_write_all (parted_line preceded ps) ≡ true
  line_writes true ps h = h
  line_writes false ps h = h

  functions_write : (Good : Function → Type 0) → ((f : Function) → Good f → can_write_all (function_pieces list f) ≡ true) → (preceded : Bool) (fs : List Function) → Each Good fs → can_write_all (functions_pieces list preceded fs) ≡ true
  functions_write Good writes preceded [] h = refl
  functions_write Good writes preceded (f ∷ fs) h =
      writes_append (parted_line preceded (function_pieces list f)) (flat_map (later_function list) fs) (line_writes preceded (function_pieces list f) (writes f h.0))
      (flat_writes (later_function list) Good (λ g k. writes g k) fs h.1)

-- the tokens of the nodes from a number on
abbrev node_tokens : ℕ → List Prof → Tokens
node_tokens k [] = []
node_tokens k (p ∷ ps) = tokens_before (node_pieces k p) (node_tokens (suc k) ps)

lines_tokens : (k : ℕ) (ps : List Prof) → tokens_before (node_lines k ps) [] ≡ node_tokens k ps
lines_tokens k [] = refl
lines_tokens k (p ∷ ps) = tokens_append (node_pieces k p) (node_lines (suc k) ps) [] ∙ ap (tokens_before (node_pieces k p)) (lines_tokens (suc k) ps)

nodes_tokens : (ps : List Prof) → tokens_before (nodes_pieces ps) [] ≡ node_tokens 0 ps
nodes_tokens [] = refl
nodes_tokens (p ∷ ps) = lines_tokens 0 (p ∷ ps)

-- # What stands behind a part

function_first : (list : List Prof) (f : Function) (others : Tokens) → Follows (tokens_before (function_pieces list f) others) × (any_left (tokens_before (function_pieces list f) others) ≡ true)
function_first list f others = go (has_body f.blocks)
  where
    go : (b : Bool) → Follows (tokens_before (cond b (definition_pieces list f) (declaration_pieces f)) others) × (any_left (tokens_before (cond b (definition_pieces list f) (declaration_pieces f)) others) ≡ true)
    go true = (record { comma = refl; past = refl }, refl)
    go false = (record { comma = refl; past = refl }, refl)

functions_follow : (list : List Prof) (fs : List Function) (others : Tokens) → Follows others → Follows (each_tokens (function_pieces list) fs others)
functions_follow list [] others h = h
functions_follow list (f ∷ fs) others h = (function_first list f (each_tokens (function_pieces list) fs others)).0

variables_follow : (gs : List Global1) (others : Tokens) → Follows others → Follows (each_tokens variable_pieces gs others)
variables_follow [] others h = h
variables_follow (g ∷ gs) others h = record { comma = refl; past = refl }

nodes_follow : (k : ℕ) (ps : List Prof) → Follows (node_tokens k ps)
nodes_follow k [] = record { comma = refl; past = refl }
nodes_follow k (p ∷ ps) = record { comma = refl; past = refl }

-- # The parts of a module

abbrev nothings : List Prof → List Part
nothings [] = []
nothings (p ∷ ps) = parts.Nothing ∷ nothings ps

abbrev functions_then : List Function → List Part → List Part
functions_then [] xs = xs
functions_then (f ∷ fs) xs = parts.Function f ∷ functions_then fs xs

abbrev variables_then : List Global1 → List Part → List Part
variables_then [] xs = xs
variables_then (g ∷ gs) xs = parts.Variable g ∷ variables_then gs xs

no_variables : (ps : List Prof) → filter_map variable_of (nothings ps) ≡ []
no_variables [] = refl
no_variables (p ∷ ps) = no_variables ps

no_functions : (ps : List Prof) → filter_map function_of (nothings ps) ≡ []
no_functions [] = refl
no_functions (p ∷ ps) = no_functions ps

past_functions : (fs : List Function) (xs : List Part) → filter_map variable_of (functions_then fs xs) ≡ filter_map variable_of xs
past_functions [] xs = refl
past_functions (f ∷ fs) xs = past_functions fs xs

the_functions : (fs : List Function) (xs : List Part) → filter_map function_of (functions_then fs xs) ≡ fs ++ filter_map function_of xs
the_functions [] xs = refl
the_functions (f ∷ fs) xs = ap (λ gs. f ∷ gs) (the_functions fs xs)

the_variables : (gs : List Global1) (xs : List Part) → filter_map variable_of (variables_then gs xs) ≡ gs ++ filter_map variable_of xs
the_variables [] xs = refl
the_variables (g ∷ gs) xs = ap (λ hs. g ∷ hs) (the_variables gs xs)

past_variables : (gs : List Global1) (xs : List Part) → filter_map function_of (variables_then gs xs) ≡ filter_map function_of xs
past_variables [] xs = refl
past_variables (g ∷ gs) xs = past_variables gs xs

abbrev parts_of : Module → List Prof → List Part
parts_of m list = variables_then m.globals (functions_then m.functions (nothings list))

pub same_module : (m : Module) (list : List Prof) → m ≡ module_of (parts_of m list)
same_module m list =
    let globals : filter_map variable_of (parts_of m list) ≡ m.globals =
    the_variables m.globals (functions_then m.functions (nothings list)) ∙ ap (λ xs. m.globals ++ xs) (past_functions m.functions (nothings list) ∙ no_variables list) ∙ append-nil m.globals in
    let functions : filter_map function_of (parts_of m list) ≡ m.functions =
    past_variables m.globals (functions_then m.functions (nothings list)) ∙ the_functions m.functions (nothings list) ∙ ap (λ xs. m.functions ++ xs) (no_functions list) ∙ append-nil m.functions in
    ap (λ gs. record { globals = gs; functions = m.functions }) (sym globals)
    ∙ ap (λ fs. record { globals = filter_map variable_of (parts_of m list); functions = fs }) (sym functions)

-- # All parts are spelled

module _ (laws : PartsAreSpelled) (nodes : Nodes) (list : List Prof) where
  nodes_many : (k : ℕ) (ps : List Prof) → Each IsNote ps → k + length ps ≤ 2 ^ 64 → AreMany any_left (part nodes) (node_tokens k ps) (nothings ps) []
  nodes_many k [] h few = (refl, refl)
  nodes_many k (p ∷ ps) h few =
      (refl, node_tokens (suc k) ps, laws.node nodes k p (node_tokens (suc k) ps) (omega arith) h.0, nodes_many (suc k) ps h.1 (omega arith))

  functions_many : (fs : List Function) (rest : Tokens) (xs : List Part) → Each (IsFunction (IsKept nodes list)) fs → Follows rest → AreMany any_left (part nodes) rest xs [] → AreMany any_left (part nodes) (each_tokens (function_pieces list) fs rest) (functions_then fs xs) []
  functions_many [] rest xs h f k = k
  functions_many (f ∷ fs) rest xs h follows k =
      let behind = each_tokens (function_pieces list) fs rest in
      ((function_first list f behind).1, behind, laws.function nodes list f behind h.0 (functions_follow list fs rest follows).past, functions_many fs rest xs h.1 follows k)

  variables_many : (gs : List Global1) (rest : Tokens) (xs : List Part) → Each IsVariable gs → Follows rest → AreMany any_left (part nodes) rest xs [] → AreMany any_left (part nodes) (each_tokens variable_pieces gs rest) (variables_then gs xs) []
  variables_many [] rest xs h f k = k
  variables_many (g ∷ gs) rest xs h follows k =
      let behind = each_tokens variable_pieces gs rest in
      (refl, behind, laws.variable nodes g behind h.0 (variables_follow gs rest follows).comma, variables_many gs rest xs h.1 follows k)

  functions_quiet : (fs : List Function) (rest : Tokens) → Each (IsFunction (IsKept nodes list)) fs → nodes_from 0 (each_tokens (function_pieces list) fs rest) ≡ nodes_from 0 rest
  functions_quiet [] rest h = refl
  functions_quiet (f ∷ fs) rest h = laws.function_quiet nodes list f h.0 (each_tokens (function_pieces list) fs rest) ∙ functions_quiet fs rest h.1

  variables_quiet : (gs : List Global1) (rest : Tokens) → Each IsVariable gs → nodes_from 0 (each_tokens variable_pieces gs rest) ≡ nodes_from 0 rest
  variables_quiet [] rest h = refl
  variables_quiet (g ∷ gs) rest h = laws.variable_quiet g h.0 (each_tokens variable_pieces gs rest) ∙ variables_quiet gs rest h.1

  nodes_found : (k : ℕ) (ps : List Prof) → Each IsNote ps → k + length ps ≤ 2 ^ 64 → nodes_from 0 (node_tokens k ps) ≡ table k ps
  nodes_found k [] h few = refl
  nodes_found k (p ∷ ps) h few =
      laws.node_found k p (node_tokens (suc k) ps) (omega arith) h.0 ∙ ap (λ ns. (k, Some p) ∷ ns) (nodes_found (suc k) ps h.1 (omega arith))

  lines_write : (k : ℕ) (ps : List Prof) → Each IsNote ps → k + length ps ≤ 2 ^ 64 → can_write_all (node_lines k ps) ≡ true
  lines_write k [] h few = refl
  lines_write k (p ∷ ps) h few =
      writes_append (node_pieces k p) (node_lines (suc k) ps) (laws.node_writes k p (omega arith) h.0) (lines_write (suc k) ps h.1 (omega arith))

  nodes_write : (ps : List Prof) → Each IsNote ps → length ps ≤ 2 ^ 64 → can_write_all (nodes_pieces ps) ≡ true
  nodes_write [] h few = refl
  nodes_write (p ∷ ps) h few = lines_write 0 (p ∷ ps) h (omega arith)

-- # Notes with one text

module _ (laws : PartsAreSpelled) (cut : PiecesAreCut) (unique : TokensAreUnique) where
  pub one_note : (p q : Prof) → IsNote p → IsNote q → note_text p ≡ note_text q → p ≡ q
  unfolding note_text
  one_note p q h k e =
      let ts = tokens_before (note_pieces p) [] in
      let us = tokens_before (note_pieces q) [] in
      let first : Lexes (text_of (note_pieces p)) ts = cut (note_pieces p) (laws.note_writes p h) in
      let second : Lexes (text_of (note_pieces q)) us = cut (note_pieces q) (laws.note_writes q k) in
      let same_tokens : ts ≡ us = unique (text_of (note_pieces p)) ts us first (subst (λ text. Lexes text us) (sym e) second) in
      (spelled_once note ts p q [] [] (laws.note p [] h) (subst (λ vs. note.Spells vs q []) (sym same_tokens) (laws.note q [] k))).0

  -- # The module

  module_tokens : (list : List Prof) (m : Module) → tokens_before (module_pieces list m) [] ≡ each_tokens variable_pieces m.globals (each_tokens (function_pieces list) m.functions (node_tokens 0 list))
  unfolding module_pieces
  module_tokens list m =
      tokens_append (flat_map variable_pieces m.globals ++ functions_pieces list (has_any m.globals) m.functions) (nodes_pieces list) []
      ∙ ap (tokens_before (flat_map variable_pieces m.globals ++ functions_pieces list (has_any m.globals) m.functions)) (nodes_tokens list)
      ∙ tokens_append (flat_map variable_pieces m.globals) (functions_pieces list (has_any m.globals) m.functions) (node_tokens 0 list)
      ∙ ap (tokens_before (flat_map variable_pieces m.globals)) (functions_tokens list (has_any m.globals) m.functions (node_tokens 0 list))
      ∙ flat_tokens variable_pieces m.globals (each_tokens (function_pieces list) m.functions (node_tokens 0 list))

  module _ (m : Module) (h : IsSpellable m) where
    abbrev list_of : List Prof
    list_of = nodes_of m

    all_notes : Each IsNote (nodes_of m)
    all_notes = module_notes IsNote m h.functions

    all_kept : Each (IsFunction (IsKept (table 0 (nodes_of m)) (nodes_of m))) m.functions
    all_kept = module_has IsNote (IsKept (table 0 (nodes_of m)) (nodes_of m)) m h.functions (λ q is has. kept one_note (nodes_of m) q all_notes h.notes is has)

    few : 0 + length (nodes_of m) ≤ 2 ^ 64
    few = let most = h.notes in omega arith

    writes : can_write_all (module_pieces (nodes_of m) m) ≡ true
    unfolding module_pieces
    writes =
        let nodes = table 0 (nodes_of m) in
        writes_append (flat_map variable_pieces m.globals ++ functions_pieces (nodes_of m) (has_any m.globals) m.functions) (nodes_pieces (nodes_of m))
        (writes_append (flat_map variable_pieces m.globals) (functions_pieces (nodes_of m) (has_any m.globals) m.functions)
        (flat_writes variable_pieces IsVariable laws.variable_writes m.globals h.variables)
        (functions_write (nodes_of m) (IsFunction (IsKept nodes (nodes_of m))) (λ f k. laws.function_writes nodes (nodes_of m) f k) (has_any m.globals) m.functions all_kept))
        (nodes_write laws nodes (nodes_of m) (nodes_of m) all_notes h.notes)

    abbrev all_tokens : Tokens
    all_tokens = each_tokens variable_pieces m.globals (each_tokens (function_pieces (nodes_of m)) m.functions (node_tokens 0 (nodes_of m)))

    found : grammar.nodes_of all_tokens ≡ table 0 (nodes_of m)
    found =
        let nodes = table 0 (nodes_of m) in
        let list = nodes_of m in
        variables_quiet laws nodes list m.globals (each_tokens (function_pieces list) m.functions (node_tokens 0 list)) h.variables
        ∙ functions_quiet laws nodes list m.functions (node_tokens 0 list) all_kept
        ∙ nodes_found laws nodes list 0 list all_notes few

    spelled : («module» (table 0 (nodes_of m))).Spells all_tokens m []
    unfolding «module»
    spelled =
        let nodes = table 0 (nodes_of m) in
        let list = nodes_of m in (
          parts_of m list,
          [],
          variables_many laws nodes list m.globals (each_tokens (function_pieces list) m.functions (node_tokens 0 list)) (functions_then m.functions (nothings list)) h.variables (functions_follow list m.functions (node_tokens 0 list) (nodes_follow 0 list))
              (functions_many laws nodes list m.functions (node_tokens 0 list) (nothings list) all_kept (nodes_follow 0 list) (nodes_many laws nodes list 0 list all_notes few)),
          (same_module m list, refl),
        )

    pub module_spelled : SpellsText (canonical m) m
    unfolding canonical
    module_spelled = (
      tokens_before (module_pieces (nodes_of m) m) [],
      (
        cut (module_pieces (nodes_of m) m) writes,
        subst (λ ts. Spells ts m) (sym (module_tokens (nodes_of m) m)) (subst (λ nodes. («module» nodes).Spells all_tokens m []) (sym found) spelled),
      ),
    )
