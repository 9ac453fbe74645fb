-- The text that is hashed, piece by piece.
use Rattle.std.proofs.Common.{◌≡◌, ℕ, Bool, List, [], ◌∷◌, ◌++◌, length, sym, ap, ◌∙◌, append_assoc, append-nil}
use Rattle.std.specs.Prelude.{decimal}
use Rattle.ir_tree.specs.Graphs.{FlowGraph, nodes}
use Rattle.ir_tree.specs.declared.edge.Edge.{Edge}
use Rattle.cfg_edges.specs.Hash.{ends, hash_text, mode_numbers, spaced}

abbrev pub spaced_one : ℕ → List ℕ
spaced_one n = 32 ∷ decimal n

three : (t : List ℕ) (a b c : ℕ) → t ++ spaced_one a ++ spaced_one b ++ spaced_one c ≡ t ++ spaced (a ∷ b ∷ c ∷ [])
three t a b c =
    append_assoc (t ++ spaced_one a) (spaced_one b) (spaced_one c)
    ∙ append_assoc t (spaced_one a) (spaced_one b ++ spaced_one c)
    ∙ ap (λ (u : List ℕ). t ++ (spaced_one a ++ (spaced_one b ++ u))) (sym (append-nil (spaced_one c)))

pub text_is : (g : FlowGraph) (counters : ℕ) (mode : Bool) (n m s l : ℕ) (es : List Edge) → n ≡ nodes g → m ≡ length g.edges → es ≡ g.edges → s ≡ length g.sites → l ≡ length g.selects
    → [] ++ decimal n ++ spaced_one m ++ spaced (ends es) ++ spaced_one counters ++ spaced_one s ++ spaced_one l ++ spaced (mode_numbers mode) ≡ hash_text g counters mode
unfolding hash_text
text_is g counters mode n m s l es of_nodes of_edges is of_sites of_selects =
    ap (λ (t : List ℕ). t ++ spaced (mode_numbers mode)) (three ([] ++ decimal n ++ spaced_one m ++ spaced (ends es)) counters s l)
    ∙ ap (λ (u : List ℕ). [] ++ decimal n ++ u ++ spaced (ends es) ++ spaced (counters ∷ s ∷ l ∷ []) ++ spaced (mode_numbers mode)) (sym (append-nil (spaced_one m)))
    ∙ (λ i. decimal (of_nodes i) ++ spaced (of_edges i ∷ []) ++ spaced (ends (is i)) ++ spaced (counters ∷ of_sites i ∷ of_selects i ∷ []) ++ spaced (mode_numbers mode))

pub appended : (t0 t1 t2 t3 t4 t5 t6 t7 p1 p2 p3 p4 p5 p6 p7 : List ℕ) → t0 ≡ [] → t1 ≡ t0 ++ p1 → t2 ≡ t1 ++ p2 → t3 ≡ t2 ++ p3 → t4 ≡ t3 ++ p4 → t5 ≡ t4 ++ p5 → t6 ≡ t5 ++ p6 → t7 ≡ t6 ++ p7
    → t7 ≡ [] ++ p1 ++ p2 ++ p3 ++ p4 ++ p5 ++ p6 ++ p7
appended t0 t1 t2 t3 t4 t5 t6 t7 p1 p2 p3 p4 p5 p6 p7 e0 e1 e2 e3 e4 e5 e6 e7 =
    e7 ∙ ap (λ (t : List ℕ). t ++ p7) (e6 ∙ ap (λ (t : List ℕ). t ++ p6) (e5 ∙ ap (λ (t : List ℕ). t ++ p5) (e4 ∙ ap (λ (t : List ℕ). t ++ p4) (e3 ∙ ap (λ (t : List ℕ). t ++ p3) (e2 ∙ ap (λ (t : List ℕ). t ++ p2) (e1 ∙ ap (λ (t : List ℕ). t ++ p1) e0))))))
