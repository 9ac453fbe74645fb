use Rattle.std.proofs.Common.{◌≡◌, List, [], ◌∷◌, ◌++◌, append-nil, append_assoc, append_assoc, false, sym, ap, ◌∙◌, subst}
use Rattle.std.specs.List.{IsDistinct}
use Rattle.std.specs.Map.{lookup, keys_of}
use Rattle.indexmap.specs.IndexMap.{get_by}
use Rattle.std.proofs.lemmas.Map.Iter.{rest_more, rest_all}
use Rattle.prof_view.specs.Profile.{ProfileRecord}
use Rattle.prof_text.specs.Merged.{Key}
use Rattle.prof_text.specs.Gathered.{plain_key, is_key, Gathers, IsTallyAt, with_records}
use Rattle.prof_text.proofs.GatherLemmas.{borrowed_key_eq}
use Rattle.prof_text.proofs.WalkLemmas.{Entry, among, apart_among, is_among, tally_here, among_all, absorb_push}
use Rattle.prof_text.proofs.gathered.Gathered.absorb.Goals as goal

pub loop-name-init : goal.loop-name-init
loop-name-init c = ([], sym c.into_iter-name-iterator.ensures.into_iter_gives.0, λ f g gathers more key. subst (IsTallyAt _) (sym (append-nil (f key))) (gathers key))

pub loop-name-preserved : goal.loop-name-preserved
loop-name-preserved c =
    let (done, so_far, put) = c.loop-name.invariant in
    let e : Entry = ((c.in-Some.name, c.in-Some.hash), c.in-Some.tally) in
    let whole : c.args.more.tallies.entries ≡ done ++ e ∷ c.next.new.self =
    so_far ∙ ap (λ (zs : List Entry). done ++ zs) (rest_more (λ (x : Entry). x) c.loop-name.name-iterator c.next.new.self c.next.result e c.in-Some.is c.next.ensures.steps) in
    let apart : is_among (plain_key e.0) done ≡ false =
    apart_among done c.next.new.self e (subst (λ (es : List Entry). IsDistinct borrowed_key_eq (keys_of es)) whole c.into_iter-name-iterator.ensures.into_iter_gives.4) in (
      done ++ e ∷ [],
      whole ∙ sym (append_assoc done (e ∷ []) c.next.new.self),
      λ f g gathers more key.
          let at : (key : Key) → IsTallyAt (lookup (is_key key) (done ++ e ∷ c.next.new.self)) (g key) =
          subst (λ (es : List Entry). (key : Key) → IsTallyAt (lookup (is_key key) es) (g key)) whole more in
          let now : Gathers c.put.new.self (with_records (λ k. f k ++ among k done (g k)) (plain_key e.0) (g (plain_key e.0))) =
          c.in_ok-put.ensures (λ k. f k ++ among k done (g k)) (g (plain_key e.0)) (put f g gathers more) (tally_here g done c.next.new.self e apart at) in
          subst (IsTallyAt _) (absorb_push f g done e apart key) (now key),
    )

pub returns : goal.returns
returns c f g gathers more key =
    let (done, so_far, put) = c.loop-name.invariant in
    let whole : c.args.more.tallies.entries ≡ done =
    so_far ∙ (ap (λ (zs : List Entry). done ++ zs) (rest_all (λ (x : Entry). x) c.loop-name.name-iterator c.next.new.self c.next.result c.in-None.is c.next.ensures.steps) ∙ append-nil done) in
    subst (λ (rs : List ProfileRecord). IsTallyAt (get_by (is_key key) c.loop-name.self.tallies) (f key ++ rs))
    (among_all key done (g key) (subst (λ (es : List Entry). IsTallyAt (lookup (is_key key) es) (g key)) whole (more key)))
    (put f g gathers more key)
