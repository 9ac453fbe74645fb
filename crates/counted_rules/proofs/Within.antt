-- A module passes no limit where each quantity is within its own.
use Rattle.std.proofs.Common.{◌≡◌, ℕ, ◌<◌, ◌≤◌, ◌⊎◌, inl, inr, Bool, cond, List, [], ◌∷◌, ◌++◌, length, refl, sym, ap, subst, ◌∙◌}
use Rattle.std.proofs.lemmas.Bool.{cases_lt, le-ltb, lt-ltb}
use Rattle.counted_rules.specs.Within.{IsWithin}
use Rattle.ir_rules.specs.Kinds.{kind_of}
use Rattle.ir_rules.specs.Limits.{above, all_arrays, cells, counters_in, each_above, most, passed, passed_by, registers, reported, sites_in}
use Rattle.ir_rules.specs.Lists.{Among}
use Rattle.ir_rules.specs.declared.place.Kind.{Kind}
use Rattle.ir_rules.specs.declared.place.LimitKind.{LimitKind}
use Rattle.ir_rules.specs.declared.place.LimitKind.TheVariants.{Functions, Globals, Edges, Registers, Object, Cells, Sites, Counters}
use Rattle.ir_tree.specs.Edges.{edges_in}
use Rattle.ir_tree.specs.declared.types.Module.{Module}

nil_left : {Y : Type 0} (ys zs : List Y) → ys ++ zs ≡ [] → ys ≡ []
nil_left [] zs h = refl
nil_left (y ∷ ys) zs h = cc

nil_right : {Y : Type 0} (ys zs : List Y) → ys ++ zs ≡ [] → zs ≡ []
nil_right [] zs h = h
nil_right (y ∷ ys) zs h = cc

nil_both : {Y : Type 0} (ys zs : List Y) → ys ≡ [] → zs ≡ [] → ys ++ zs ≡ []
nil_both [] zs h k = k
nil_both (y ∷ ys) zs h k = absurd (cc)

above_none : (which : LimitKind) (bound found : ℕ) → above which bound found ≡ [] → found ≤ bound
above_none which bound found e = by (cases_lt bound found)
  where
    by : (bound < found) ⊎ (found ≤ bound) → found ≤ bound
    by (inl h) = absurd (cc (ap (λ (b : Bool). cond {A = List (LimitKind × ℕ)} b ((which, reported found) ∷ []) []) (sym (lt-ltb bound found h)) ∙ e))
    by (inr h) = h

none_above : (which : LimitKind) (bound found : ℕ) → found ≤ bound → above which bound found ≡ []
none_above which bound found h = ap (λ (b : Bool). cond {A = List (LimitKind × ℕ)} b ((which, reported found) ∷ []) []) (le-ltb bound found h)

each_none : {X : Type 0} (which : LimitKind) (bound : ℕ) (quantity : X → ℕ) (xs : List X) → each_above which bound quantity xs ≡ [] → (x : X) → Among x xs → quantity x ≤ bound
each_none which bound quantity [] e x at = absurd at
each_none {X} which bound quantity (y ∷ ys) e x (inl is) = subst (λ (z : X). quantity z ≤ bound) (sym is) (above_none which bound (quantity y) (nil_left (above which bound (quantity y)) (each_above which bound quantity ys) e))
each_none which bound quantity (y ∷ ys) e x (inr at) = each_none which bound quantity ys (nil_right (above which bound (quantity y)) (each_above which bound quantity ys) e) x at

none_each : {X : Type 0} (which : LimitKind) (bound : ℕ) (quantity : X → ℕ) (xs : List X) → ((x : X) → Among x xs → quantity x ≤ bound) → each_above which bound quantity xs ≡ []
none_each which bound quantity [] h = refl
none_each which bound quantity (y ∷ ys) h = nil_both (above which bound (quantity y)) (each_above which bound quantity ys) (none_above which bound (quantity y) (h y (inl refl))) (none_each which bound quantity ys (λ x at. h x (inr at)))

module _ (kind : Kind) (m : Module) where
  abbrev from_counters : List (LimitKind × ℕ)
  from_counters = above Counters (most kind Counters) (counters_in kind m)

  abbrev from_sites : List (LimitKind × ℕ)
  from_sites = above Sites (most kind Sites) (sites_in kind m) ++ from_counters

  abbrev from_cells : List (LimitKind × ℕ)
  from_cells = above Cells (most kind Cells) (cells m) ++ from_sites

  abbrev from_objects : List (LimitKind × ℕ)
  from_objects = each_above Object (most kind Object) (λ size. size) (all_arrays m) ++ from_cells

  abbrev from_registers : List (LimitKind × ℕ)
  from_registers = each_above Registers (most kind Registers) (registers kind) m.functions ++ from_objects

  abbrev from_edges : List (LimitKind × ℕ)
  from_edges = each_above Edges (most kind Edges) edges_in m.functions ++ from_registers

  abbrev from_globals : List (LimitKind × ℕ)
  from_globals = above Globals (most kind Globals) (length m.globals) ++ from_edges

  is_within : passed_by kind m ≡ [] → IsWithin kind m
  is_within e =
      let a = nil_right (above Functions (most kind Functions) (length m.functions)) from_globals e in
      let b = nil_right (above Globals (most kind Globals) (length m.globals)) from_edges a in
      let c = nil_right (each_above Edges (most kind Edges) edges_in m.functions) from_registers b in
      let d = nil_right (each_above Registers (most kind Registers) (registers kind) m.functions) from_objects c in
      let f = nil_right (each_above Object (most kind Object) (λ size. size) (all_arrays m)) from_cells d in
      let g = nil_right (above Cells (most kind Cells) (cells m)) from_sites f in
      record {
        functions = above_none Functions (most kind Functions) (length m.functions) (nil_left (above Functions (most kind Functions) (length m.functions)) from_globals e);
        globals = above_none Globals (most kind Globals) (length m.globals) (nil_left (above Globals (most kind Globals) (length m.globals)) from_edges a);
        edges = each_none Edges (most kind Edges) edges_in m.functions (nil_left (each_above Edges (most kind Edges) edges_in m.functions) from_registers b);
        results = each_none Registers (most kind Registers) (registers kind) m.functions (nil_left (each_above Registers (most kind Registers) (registers kind) m.functions) from_objects c);
        objects = each_none Object (most kind Object) (λ size. size) (all_arrays m) (nil_left (each_above Object (most kind Object) (λ size. size) (all_arrays m)) from_cells d);
        memory = above_none Cells (most kind Cells) (cells m) (nil_left (above Cells (most kind Cells) (cells m)) from_sites f);
        sites = above_none Sites (most kind Sites) (sites_in kind m) (nil_left (above Sites (most kind Sites) (sites_in kind m)) from_counters g);
        counted = above_none Counters (most kind Counters) (counters_in kind m) (nil_right (above Sites (most kind Sites) (sites_in kind m)) from_counters g);
      }

  none_passed : IsWithin kind m → passed_by kind m ≡ []
  none_passed w =
      nil_both (above Functions (most kind Functions) (length m.functions)) from_globals (none_above Functions (most kind Functions) (length m.functions) w.functions) (
      nil_both (above Globals (most kind Globals) (length m.globals)) from_edges (none_above Globals (most kind Globals) (length m.globals) w.globals) (
      nil_both (each_above Edges (most kind Edges) edges_in m.functions) from_registers (none_each Edges (most kind Edges) edges_in m.functions w.edges) (
      nil_both (each_above Registers (most kind Registers) (registers kind) m.functions) from_objects (none_each Registers (most kind Registers) (registers kind) m.functions w.results) (
      nil_both (each_above Object (most kind Object) (λ size. size) (all_arrays m)) from_cells (none_each Object (most kind Object) (λ size. size) (all_arrays m) w.objects) (
      nil_both (above Cells (most kind Cells) (cells m)) from_sites (none_above Cells (most kind Cells) (cells m) w.memory) (
      nil_both (above Sites (most kind Sites) (sites_in kind m)) from_counters (none_above Sites (most kind Sites) (sites_in kind m) w.sites) (none_above Counters (most kind Counters) (counters_in kind m) w.counted)))))))

pub passed_none : (m : Module) → passed m ≡ [] → IsWithin (kind_of m.functions) m
unfolding passed
passed_none m e = is_within (kind_of m.functions) m e

pub within_passes : (m : Module) → IsWithin (kind_of m.functions) m → passed m ≡ []
unfolding passed
within_passes m w = none_passed (kind_of m.functions) m w
