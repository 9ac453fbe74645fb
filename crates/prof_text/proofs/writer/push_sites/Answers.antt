use Rattle.std.proofs.Common.{◌≡◌, ℕ, Bool, true, false, cond, List, [], length, nat_eq, ◌++◌, sym, ◌∙◌}
use Rattle.std.proofs.lemmas.Result.{on_ok_weaker}
use Rattle.prof_text.specs.Text.{sites_text}
use Rattle.prof_text.proofs.TextLemmas.{three}
use Rattle.prof_text.proofs.writer.push_sites.Goals as goal

choose : (b : Bool) (o x : List ℕ) (n : List ℕ) → b ≡ false → n ≡ o ++ x → n ≡ o ++ cond b [] x
choose true o x n h e = cc
choose false o x n h e = e

pub returns : goal.returns
unfolding sites_text
returns c =
    on_ok_weaker c.push_each_site.result
    (λ e. choose (nat_eq (length c.args.sites.now) 0) c.args.out.now.items _ _ (sym c.is_empty.ensures ∙ c.if-is_empty.false)
    (three c.args.out.now.items _ _ _ _ _ _ c.in_ok-push.ensures c.in_ok-push_number_line.ensures e))
    c.push_each_site.ensures
