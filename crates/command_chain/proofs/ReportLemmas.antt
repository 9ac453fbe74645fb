-- The report, function by function and edge by edge.
use Rattle.std.proofs.Common.{◌≡◌, ℕ, suc, ◌+◌, ◌<◌, ◌==◌, Bool, true, false, cond, List, [], ◌∷◌, ◌++◌, length, drop, Some, refl, sym, ap, ◌∙◌, arith, append_assoc, append-nil, add-one, add-zero, get_or}
use Rattle.std.specs.Prelude.{codes, slice_get}
use Rattle.std.proofs.Math.Seq.{drop-cons}
use Rattle.std.proofs.lemmas.Bool.Decides.{nat_tests}
use Rattle.std.proofs.lemmas.Option.{get_or_from_slice_get, slice_get-get_or}
use Rattle.ir_tree.specs.declared.types.Block.{Block}
use Rattle.ir_tree.specs.declared.types.Function.{Function}
use Rattle.ir_tree.specs.declared.types.Module.{Module}
use Rattle.ir_model.specs.declared.result.Call.{Call}
use Rattle.ir_machine.specs.Slots.{HasEdge}
use Rattle.ir_tree.specs.Functions.{is_declared}
use Rattle.ir_tree.specs.Graphs.{FlowGraph, graph_of}
use Rattle.ir_tree.specs.Spelling.{global_text}
use Rattle.ir_tree.specs.declared.edge.Edge.{Edge}
use Rattle.command_chain.specs.Chain.{walks}
use Rattle.command_chain.specs.Counted.{AreWalks, counted_at}
use Rattle.command_chain.specs.Report.{Count, edge_line, edge_lines, function_lines, function_report, report}

-- # One more edge

pub edges_turn : (count : Edge → ℕ) (blocks : List Block) (g : FlowGraph) (i : ℕ) (left : List Edge) (e : Edge) (rest : List Edge) (out text all : List ℕ)
    → left ≡ e ∷ rest → text ≡ edge_line blocks g i e (count e) → out ++ edge_lines count blocks g i left ≡ all → (out ++ text) ++ edge_lines count blocks g (i + 1) rest ≡ all
edges_turn count blocks g i left e rest out text all first is put =
    append_assoc out text (edge_lines count blocks g (i + 1) rest)
    ∙ ap (λ t. out ++ (t ++ edge_lines count blocks g (i + 1) rest)) is
    ∙ ap (λ es. out ++ edge_lines count blocks g i es) (sym first)
    ∙ put

pub edges_end : (count : Edge → ℕ) (blocks : List Block) (g : FlowGraph) (i : ℕ) (left : List Edge) (out all : List ℕ) → left ≡ [] → out ++ edge_lines count blocks g i left ≡ all → out ≡ all
edges_end count blocks g i left out all none put = sym (append-nil out) ∙ ap (λ es. out ++ edge_lines count blocks g i es) (sym none) ∙ put

-- # One more function

pub report_turn : (count : Count) (i : ℕ) (left : List Function) (f : Function) (more : List Function) (out new all : List ℕ)
    → left ≡ f ∷ more → new ≡ out ++ function_report (count i) f → out ++ report count i left ≡ all → new ++ report count (i + 1) more ≡ all
report_turn count i left f more out new all first put so_far =
    ap (λ t. t ++ report count (i + 1) more) put
    ∙ append_assoc out (function_report (count i) f) (report count (i + 1) more)
    ∙ ap (λ fs. out ++ report count i fs) (sym first)
    ∙ so_far

pub report_ends : (count : Count) (i : ℕ) (left : List Function) (out all : List ℕ) → left ≡ [] → out ++ report count i left ≡ all → out ≡ all
report_ends count i left out all none so_far = sym (append-nil out) ∙ ap (λ fs. out ++ report count i fs) (sym none) ∙ so_far

-- # Counts that are equal at each edge make one report

lines_same : (one two : Edge → ℕ) (blocks : List Block) (g : FlowGraph) (n : ℕ) (es : List Edge) → ((j : ℕ) (e : Edge) → slice_get es j ≡ Some e → one e ≡ two e) → edge_lines one blocks g n es ≡ edge_lines two blocks g n es
lines_same one two blocks g n [] same = refl
lines_same one two blocks g n (e ∷ es) same =
    ap (λ c. edge_line blocks g n e c ++ edge_lines one blocks g (n + 1) es) (same 0 e refl)
    ∙ ap (λ t. edge_line blocks g n e (two e) ++ t) (lines_same one two blocks g (n + 1) es (λ j x at. same (suc j) x at))

-- a function that isn't declared has blocks
pub has_blocks : (f : Function) → is_declared f ≡ false → 0 < length f.blocks
has_blocks f e = by f.blocks e
  where
    by : (blocks : List Block) → (length blocks == 0) ≡ false → 0 < length blocks
    by [] h = absurd (cc)
    by (b ∷ bs) h = omega arith

module _ (one two : Count) (functions : List Function) (same : (k : ℕ) (f : Function) (n : ℕ) (e : Edge) → slice_get functions k ≡ Some f → 0 < length f.blocks → slice_get (graph_of f).edges n ≡ Some e → one k e ≡ two k e) where
  function_same : (k : ℕ) (f : Function) → slice_get functions k ≡ Some f → function_report (one k) f ≡ function_report (two k) f
  unfolding function_lines
  function_same k f at = by (is_declared f) refl
    where
      by : (b : Bool) → is_declared f ≡ b → cond b [] (function_lines (one k) f (graph_of f)) ≡ cond b [] (function_lines (two k) f (graph_of f))
      by true e = refl
      by false e = ap (λ t. codes "function @" ++ global_text f.name ++ codes " solved\n" ++ t) (lines_same (one k) (two k) f.blocks (graph_of f) 0 (graph_of f).edges (λ n d there. same k f n d at (has_blocks f e) there))

  report_same_from : (k : ℕ) (fs : List Function) → ((j : ℕ) (f : Function) → slice_get fs j ≡ Some f → slice_get functions (k + j) ≡ Some f) → report one k fs ≡ report two k fs
  report_same_from k [] at = refl
  report_same_from k (f ∷ fs) at =
      let found : slice_get functions k ≡ Some f = ap (slice_get functions) (sym (add-zero k)) ∙ at 0 f refl in
      let others = report_same_from (k + 1) fs (λ j x there. ap (slice_get functions) (behind k j) ∙ at (suc j) x there) in
      (λ i. function_same k f found i ++ others i)
    where
      behind : (k j : ℕ) → (k + 1) + j ≡ k + suc j
      behind k j = omega arith

  pub report_same : report one 0 functions ≡ report two 0 functions
  report_same = report_same_from 0 functions (λ j f there. ap (slice_get functions) (from_zero j) ∙ there)
    where
      from_zero : (j : ℕ) → 0 + j ≡ j
      from_zero j = omega arith

-- the counts at the slots make the report of the walks, where the edges of each defined function's graph have slots
pub report_walks : (m : Module) (steps : ℕ) (calls : List Call) (counts : List ℕ) → AreWalks m steps calls counts
    → ((k : ℕ) (f : Function) (n : ℕ) (e : Edge) → slice_get m.functions k ≡ Some f → 0 < length f.blocks → slice_get (graph_of f).edges n ≡ Some e → HasEdge m k e.block e.position)
    → report (counted_at m counts) 0 m.functions ≡ report (walks m steps calls) 0 m.functions
report_walks m steps calls counts are has =
    report_same (counted_at m counts) (walks m steps calls) m.functions (λ k f n e at some there. are k e.block e.position (has k f n e at some there))

-- # What an index gives

pub item_at : {A : Type 0} (xs : List A) (i : ℕ) (x d : A) → i < length xs → x ≡ get_or xs i x → get_or xs i d ≡ x
item_at xs i x d within is = get_or_from_slice_get xs i x d (slice_get-get_or xs i x within ∙ ap Some (sym is))

pub found_at : {A : Type 0} (xs : List A) (i : ℕ) (x : A) → i < length xs → x ≡ get_or xs i x → slice_get xs i ≡ Some x
found_at xs i x within is = slice_get-get_or xs i x within ∙ ap Some (sym is)

pub next_item : {A : Type 0} (xs : List A) (i : ℕ) (x d : A) → i < length xs → x ≡ get_or xs i d → drop i xs ≡ x ∷ drop (i + 1) xs
next_item xs i x d within is = drop-cons xs i d within ∙ ap (λ c. c ∷ drop (suc i) xs) (sym is) ∙ ap (λ n. x ∷ drop n xs) (sym (add-one i))
