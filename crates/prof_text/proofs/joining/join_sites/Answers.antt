use Rattle.std.proofs.Common.{is_some, true, ◌≡◌, ◌++◌, [], ℕ, List, Option, None, length, take, drop, slice_index_or, sym, ap, ◌∙◌, subst, refl, rules}
use Rattle.std.specs.Borrow.{Bor}
use Rattle.std.specs.Global.{Vec}
use Rattle.std.proofs.lemmas.List.{take_at, length-map}
use Rattle.prof_text.specs.Site.{sites_of}
use Rattle.prof_text.specs.Sums.{IsSiteTally}
use Rattle.prof_text.proofs.SumLemmas.{join_site_tally, none_of, some_is_not_none}
use Rattle.prof_text.proofs.joining.join_sites.Goals as goal

sites_len : (vs : List (Vec (Bor (List ℕ) × ℕ))) → length (sites_of vs) ≡ length vs
sites_len vs = simp length-map

pub returns-then-is_some-clause-joined : goal.returns-then-is_some-clause-joined
returns-then-is_some-clause-joined c rs us x y =
    let len : c.len.result ≡ length c.args.sites.now.items = search rules in
    let some : is_some c.first_other-differs.result ≡ true = sym c.is_some.ensures ∙ c.if-is_some.true in
    join_site_tally (sites_of c.args.sites.now.items) (sites_of c.args.more.now) (sites_of c.args.sites.now.items) c.args.other c.args.more_other c.first_other-differs.result rs us c.len.result (length c.args.more.now)
    (len ∙ sym (sites_len c.args.sites.now.items)) (sym (sites_len c.args.more.now)) refl c.first_other-differs.ensures.found (λ none. absurd (some_is_not_none c.first_other-differs.result some none)) x y

pub returns-clause-joined : goal.returns-clause-joined
returns-clause-joined c rs us x y =
    let len : c.len.result ≡ length c.args.sites.now.items = search rules in
    let none : c.first_other-differs.result ≡ None = none_of c.first_other-differs.result (sym c.is_some.ensures ∙ c.if-is_some.false) in
    let all_none : (c.args.other ≡ None) × (length c.args.more.now ≡ c.len.result) × (c.args.more_other ≡ None) = c.first_other-differs.ensures.none none in
    let same : length c.append_all.new.sites ≡ length c.args.sites.now.items = search rules in
    let whole : take c.args.sites.now.len (c.append_all.new.sites ++ drop (length c.append_all.new.sites) c.args.sites.now.items) ≡ c.append_all.new.sites = take_at c.append_all.new.sites _ c.args.sites.now.len (search rules) in
    let appended : (s : ℕ) → slice_index_or (sites_of c.append_all.new.sites) s [] ≡ slice_index_or (sites_of c.args.sites.now.items) s [] ++ slice_index_or (sites_of c.args.more.now) s [] = λ s. c.in_ok-append_all.ensures s ∙ ap (λ (zs : List (Vec (Bor (List ℕ) × ℕ))). slice_index_or (sites_of zs) s [] ++ slice_index_or (sites_of c.args.more.now) s []) c.as_mut_slice.ensures.value in
    subst (λ (zs : List (Vec (Bor (List ℕ) × ℕ))). IsSiteTally (sites_of zs) None (rs ++ us)) (sym whole)
    (subst (λ (r : Option ℕ). IsSiteTally (sites_of c.append_all.new.sites) r (rs ++ us)) none
    (join_site_tally (sites_of c.args.sites.now.items) (sites_of c.args.more.now) (sites_of c.append_all.new.sites) c.args.other c.args.more_other c.first_other-differs.result rs us c.len.result (length c.args.more.now)
    (len ∙ sym (sites_len c.args.sites.now.items)) (sym (sites_len c.args.more.now)) (sites_len c.append_all.new.sites ∙ (same ∙ sym (sites_len c.args.sites.now.items)))
    c.first_other-differs.ensures.found (λ _. (all_none.0, all_none.2, all_none.1, appended)) x y))
