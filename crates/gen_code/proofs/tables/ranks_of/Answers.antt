use Rattle.std.proofs.Common.{ℕ, ◌<◌, List, Option, length, sym, ap, subst, ◌∙◌}
use Rattle.gen_code.proofs.tables.ranks_of.Goals as goal

pub put_ranks-requires-clause-within : goal.put_ranks-requires-clause-within
put_ranks-requires-clause-within c k a =
    subst (λ (n : ℕ). k < n) (sym (ap (λ (table : List (Option ℕ)). length table) c.as_mut_slice.ensures.value ∙ c.in_ok-ranks.ensures.size)) (c.requires.within k a)
