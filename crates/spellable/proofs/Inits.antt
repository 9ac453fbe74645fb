-- Initialisers are spelled at their type.
use Rattle.std.proofs.Common.{◌≡◌, ℕ, suc, false, List, [], ◌∷◌, ◌++◌, refl, sym, ap, ◌∙◌, subst, inl, inr}
use Rattle.std.specs.Prelude.{codes, Some}
use Rattle.std.specs.Option.{option_map}
use Rattle.ir_lex.specs.Tokens.{Word, Global, Bytes, Sign}
use Rattle.ir_tree.specs.Spelling.{is_word_first, is_name_first, is_name_byte}
use Rattle.ir_tree.specs.declared.types.Ty.{Ty}
use Rattle.ir_tree.specs.declared.types.MemTy.{MemTy}
use Rattle.ir_tree.specs.declared.types.Init.{Init}
use Rattle.ir_tree.specs.declared.types.Init.TheVariants as inits
use Rattle.ir_grammar.specs.Rules.{◌>>◌}
use Rattle.ir_grammar.specs.Words.{Tokens, is_sign, first_is, listed}
use Rattle.ir_grammar.specs.Types.{memory_of, this_memory}
use Rattle.ir_grammar.specs.Variables.{scalar_init, Whole, Lists, scalar, init}
use Rattle.text_pieces.specs.declared.stop.Stop.{Stop}
use Rattle.text_pieces.specs.declared.stop.Stop.TheVariants as stops
use Rattle.text_pieces.specs.Pieces.{Piece, Alone, stop_before, tokens_before}
use Rattle.text_pieces.specs.Lists.{parted}
use Rattle.canonical_text.specs.Values.{literal_token, memory_pieces, init_pieces}
use Rattle.canonical_text.specs.Rows.{item_pieces, list_pieces}
use Rattle.spellable.specs.Values.{Each, IsCount, IsLiteral}
use Rattle.spellable.specs.Modules.{IsWhole, IsInit}
use Rattle.spellable.specs.Appends.{tokens_append}
use Rattle.spellable.proofs.Pieces.{Fine, fine_append, stop_depth}
use Rattle.spellable.proofs.Literals.{literal_is, literal_writes}
use Rattle.spellable.proofs.Names.{global_writes, bytes_write}
use Rattle.spellable.proofs.Lists.{IsItem, list_spell, list_fine}
use Rattle.spellable.proofs.Memory.{shape_first, memory_tokens, this_spells, dimensions_fine}

-- # What initialises at any type

whole_scalar : (ty : Ty) (m : MemTy) (stop : Stop) (others : Tokens) (x : Init) → IsWhole x → (scalar ty).Spells (tokens_before (init_pieces m x stop) others) x (stop_before stop others)
unfolding scalar
whole_scalar ty m stop others x (inl e) =
    subst (λ y. (scalar ty).Spells (tokens_before (init_pieces m y stop) others) y (stop_before stop others)) (sym e) (Word (codes "null"), refl, refl)
whole_scalar ty m stop others x (inr (inl e)) =
    subst (λ y. (scalar ty).Spells (tokens_before (init_pieces m y stop) others) y (stop_before stop others)) (sym e) (Word (codes "zeroinitializer"), refl, refl)
whole_scalar ty m stop others x (inr (inr (inl (name, e, h)))) =
    subst (λ y. (scalar ty).Spells (tokens_before (init_pieces m y stop) others) y (stop_before stop others)) (sym e) (Global name, refl, refl)
whole_scalar ty m stop others x (inr (inr (inr (bytes, e)))) =
    subst (λ y. (scalar ty).Spells (tokens_before (init_pieces m y stop) others) y (stop_before stop others)) (sym e) (Bytes bytes, refl, refl)

whole_array : (n : ℕ) (ns : List ℕ) (ty : Ty) (m : MemTy) (stop : Stop) (others : Tokens) (x : Init) → IsWhole x → (init (n ∷ ns) ty).Spells (tokens_before (init_pieces m x stop) others) x (stop_before stop others)
whole_array n ns ty m stop others x (inl e) =
    subst (λ y. (init (n ∷ ns) ty).Spells (tokens_before (init_pieces m y stop) others) y (stop_before stop others)) (sym e) (Whole inits.Null, stop_before stop others, (Word (codes "null"), refl, refl), (refl, refl))
whole_array n ns ty m stop others x (inr (inl e)) =
    subst (λ y. (init (n ∷ ns) ty).Spells (tokens_before (init_pieces m y stop) others) y (stop_before stop others)) (sym e) (Whole inits.Zero, stop_before stop others, (Word (codes "zeroinitializer"), refl, refl), (refl, refl))
whole_array n ns ty m stop others x (inr (inr (inl (name, e, h)))) =
    subst (λ y. (init (n ∷ ns) ty).Spells (tokens_before (init_pieces m y stop) others) y (stop_before stop others)) (sym e) (Whole (inits.Symbol name), stop_before stop others, (Global name, refl, refl), (refl, refl))
whole_array n ns ty m stop others x (inr (inr (inr (bytes, e)))) =
    subst (λ y. (init (n ∷ ns) ty).Spells (tokens_before (init_pieces m y stop) others) y (stop_before stop others)) (sym e) (Whole (inits.Bytes bytes), stop_before stop others, (Bytes bytes, refl, refl), (refl, refl))

whole_fine : (m : MemTy) (stop : Stop) (d : ℕ) (x : Init) → IsWhole x → Fine d (init_pieces m x stop) (stop_depth stop d)
unfolding is_word_first is_name_first is_name_byte
whole_fine m stop d x (inl e) = subst (λ y. Fine d (init_pieces m y stop) (stop_depth stop d)) (sym e) (refl, refl)
whole_fine m stop d x (inr (inl e)) = subst (λ y. Fine d (init_pieces m y stop) (stop_depth stop d)) (sym e) (refl, refl)
whole_fine m stop d x (inr (inr (inl (name, e, h)))) = subst (λ y. Fine d (init_pieces m y stop) (stop_depth stop d)) (sym e) (global_writes name h, refl)
whole_fine m stop d x (inr (inr (inr (bytes, e)))) = subst (λ y. Fine d (init_pieces m y stop) (stop_depth stop d)) (sym e) (bytes_write bytes, refl)

-- # Integers

int_spells : (ty : Ty) (stop : Stop) (others : Tokens) (n : ℕ) → IsLiteral ty n → (scalar ty).Spells (tokens_before (init_pieces (memory_of [] ty) (inits.Int n) stop) others) (inits.Int n) (stop_before stop others)
unfolding scalar
int_spells ty stop others n h = (
  literal_token ty n,
  refl,
  literal_is ty n (λ t. scalar_init ty t ≡ Some (inits.Int n)) h (λ minus magnitude below e. ap (option_map inits.Int) e)
      (λ e f. subst (λ k. scalar_init ty (Word (codes "false")) ≡ Some (inits.Int k)) (sym f) (subst (λ u. scalar_init u (Word (codes "false")) ≡ Some (inits.Int 0)) (sym e) refl))
      (λ e f. subst (λ k. scalar_init ty (Word (codes "true")) ≡ Some (inits.Int k)) (sym f) (subst (λ u. scalar_init u (Word (codes "true")) ≡ Some (inits.Int 1)) (sym e) refl)),
)

-- # Any initialiser

-- the items of a list of such initialisers
list_item : (ns : List ℕ) (ty : Ty) → Each IsCount ns → ((x : Init) (stop : Stop) (others : Tokens) → IsInit ns ty x → (init ns ty).Spells (tokens_before (init_pieces (memory_of ns ty) x stop) others) x (stop_before stop others)) → ((x : Init) (stop : Stop) (d : ℕ) → IsInit ns ty x → Fine d (init_pieces (memory_of ns ty) x stop) (stop_depth stop d)) → IsItem (this_memory ns ty >> init ns ty) (item_pieces (memory_of ns ty)) (IsInit ns ty)
list_item ns ty counts spells fine = record {
  spells = λ x stop others h. (
    tt,
    tokens_before (init_pieces (memory_of ns ty) x stop) others,
    subst (λ ts. (this_memory ns ty).Spells ts tt (tokens_before (init_pieces (memory_of ns ty) x stop) others)) (sym (tokens_append (memory_pieces (memory_of ns ty) stops.Space) (init_pieces (memory_of ns ty) x stop) others ∙ memory_tokens ns ty stops.Space (tokens_before (init_pieces (memory_of ns ty) x stop) others)))
        (this_spells ns ty (tokens_before (init_pieces (memory_of ns ty) x stop) others) counts),
    spells x stop others h,
  );
  fine = λ x stop d h.
      fine_append (suc d) (memory_pieces (memory_of ns ty) stops.Space) (suc d) (init_pieces (memory_of ns ty) x stop) (stop_depth stop (suc d)) (dimensions_fine ns ty stops.Space (suc d) counts) (fine x stop (suc d) h);
}

-- an item begins with its type
item_first : (ns : List ℕ) (ty : Ty) (x : Init) (stop : Stop) (ps : List Piece) (others : Tokens) → first_is (is_sign 93) (tokens_before (item_pieces (memory_of ns ty) x stop ++ ps) others) ≡ false
item_first ns ty x stop ps others =
    let behind = tokens_before (init_pieces (memory_of ns ty) x stop) (tokens_before ps others) in
    subst (λ ts. first_is (is_sign 93) ts ≡ false)
    (sym (tokens_append (item_pieces (memory_of ns ty) x stop) ps others
    ∙ tokens_append (memory_pieces (memory_of ns ty) stops.Space) (init_pieces (memory_of ns ty) x stop) (tokens_before ps others)
    ∙ memory_tokens ns ty stops.Space behind))
    (shape_first ns ty behind (is_sign 93) refl refl)

-- both at once, by recursion over the dimensions
record IsWritten (ns : List ℕ) (ty : Ty) : Type 0 where
  spells : (x : Init) (stop : Stop) (others : Tokens) → IsInit ns ty x → (init ns ty).Spells (tokens_before (init_pieces (memory_of ns ty) x stop) others) x (stop_before stop others)
  fine : (x : Init) (stop : Stop) (d : ℕ) → IsInit ns ty x → Fine d (init_pieces (memory_of ns ty) x stop) (stop_depth stop d)

scalar_spells : (ty : Ty) (x : Init) (stop : Stop) (others : Tokens) → IsInit [] ty x → (init [] ty).Spells (tokens_before (init_pieces (memory_of [] ty) x stop) others) x (stop_before stop others)
scalar_spells ty x stop others (inl h) = whole_scalar ty (memory_of [] ty) stop others x h
scalar_spells ty x stop others (inr (n, e, h)) =
    subst (λ y. (init [] ty).Spells (tokens_before (init_pieces (memory_of [] ty) y stop) others) y (stop_before stop others)) (sym e) (int_spells ty stop others n h)

scalar_fine : (ty : Ty) (x : Init) (stop : Stop) (d : ℕ) → IsInit [] ty x → Fine d (init_pieces (memory_of [] ty) x stop) (stop_depth stop d)
scalar_fine ty x stop d (inl h) = whole_fine (memory_of [] ty) stop d x h
scalar_fine ty x stop d (inr (n, e, h)) = subst (λ y. Fine d (init_pieces (memory_of [] ty) y stop) (stop_depth stop d)) (sym e) (literal_writes ty n h, refl)

module _ (n : ℕ) (ns : List ℕ) (ty : Ty) (is : IsItem (this_memory ns ty >> init ns ty) (item_pieces (memory_of ns ty)) (IsInit ns ty)) where
  list_spells : (list : List Init) (stop : Stop) (others : Tokens) → Each (IsInit ns ty) list → (init (n ∷ ns) ty).Spells (tokens_before (init_pieces (memory_of (n ∷ ns) ty) (inits.List list) stop) others) (inits.List list) (stop_before stop others)
  list_spells list stop others h =
      let item = item_pieces (memory_of ns ty) in
      subst (λ ps. (init (n ∷ ns) ty).Spells (tokens_before ps others) (inits.List list) (stop_before stop others)) (sym (list_pieces n (memory_of ns ty) list stop)) (
        Lists,
        tokens_before (parted item stops.CloseBracket list ++ Alone stop ∷ []) others,
        (Sign 91, refl, refl),
        (
          list,
          stop_before stop others,
          subst (λ ts. (listed 93 (this_memory ns ty >> init ns ty)).Spells ts list (stop_before stop others)) (sym (tokens_append (parted item stops.CloseBracket list) (Alone stop ∷ []) others))
              (list_spell (this_memory ns ty >> init ns ty) item (IsInit ns ty) is 93 stops.CloseBracket refl refl (λ ts. refl) (λ x s ps more k. item_first ns ty x s ps more) list (stop_before stop others) h),
          (refl, refl),
        ),
      )

  array_spells : (x : Init) (stop : Stop) (others : Tokens) → IsInit (n ∷ ns) ty x → (init (n ∷ ns) ty).Spells (tokens_before (init_pieces (memory_of (n ∷ ns) ty) x stop) others) x (stop_before stop others)
  array_spells x stop others (inl h) = whole_array n ns ty (memory_of (n ∷ ns) ty) stop others x h
  array_spells x stop others (inr (list, e, h)) =
      subst (λ y. (init (n ∷ ns) ty).Spells (tokens_before (init_pieces (memory_of (n ∷ ns) ty) y stop) others) y (stop_before stop others)) (sym e) (list_spells list stop others h)

  lists_fine : (list : List Init) (stop : Stop) (d : ℕ) → Each (IsInit ns ty) list → Fine d (init_pieces (memory_of (n ∷ ns) ty) (inits.List list) stop) (stop_depth stop d)
  lists_fine list stop d h =
      let item = item_pieces (memory_of ns ty) in
      subst (λ ps. Fine d ps (stop_depth stop d)) (sym (list_pieces n (memory_of ns ty) list stop))
      (fine_append (suc d) (parted item stops.CloseBracket list) d (Alone stop ∷ []) (stop_depth stop d) (list_fine (this_memory ns ty >> init ns ty) item (IsInit ns ty) is stops.CloseBracket d list h) refl)

  array_fine : (x : Init) (stop : Stop) (d : ℕ) → IsInit (n ∷ ns) ty x → Fine d (init_pieces (memory_of (n ∷ ns) ty) x stop) (stop_depth stop d)
  array_fine x stop d (inl h) = whole_fine (memory_of (n ∷ ns) ty) stop d x h
  array_fine x stop d (inr (list, e, h)) = subst (λ y. Fine d (init_pieces (memory_of (n ∷ ns) ty) y stop) (stop_depth stop d)) (sym e) (lists_fine list stop d h)

written_at : (ns : List ℕ) (ty : Ty) → Each IsCount ns → IsWritten ns ty
written_at [] ty counts = record { spells = scalar_spells ty; fine = scalar_fine ty }
written_at (n ∷ ns) ty counts =
    let inside = written_at ns ty counts.1 in
    let is = list_item ns ty counts.1 inside.spells inside.fine in
    record { spells = array_spells n ns ty is; fine = array_fine n ns ty is }

pub init_spells : (ns : List ℕ) (ty : Ty) → Each IsCount ns → (x : Init) (stop : Stop) (others : Tokens) → IsInit ns ty x → (init ns ty).Spells (tokens_before (init_pieces (memory_of ns ty) x stop) others) x (stop_before stop others)
init_spells ns ty counts = (written_at ns ty counts).spells

pub init_fine : (ns : List ℕ) (ty : Ty) → Each IsCount ns → (x : Init) (stop : Stop) (d : ℕ) → IsInit ns ty x → Fine d (init_pieces (memory_of ns ty) x stop) (stop_depth stop d)
init_fine ns ty counts = (written_at ns ty counts).fine
