use Rattle.std.proofs.Common.{◌≡◌, ◌<◌, ℕ, List, [], length, slice_index_or, sym, ap, ◌∙◌, subst, rules, arith}
use Rattle.std.proofs.lemmas.List.{length-map}
use Rattle.std.specs.Borrow.{Bor}
use Rattle.std.specs.Global.{Vec}
use Rattle.prof_text.specs.Merged.{IsMergedSite}
use Rattle.prof_text.specs.Site.{sites_of}
use Rattle.prof_text.proofs.SumLemmas.{sum_of_tally}
use Rattle.prof_text.proofs.tally.Tally.record.Goals as goal

pub returns-clause-sum : goal.returns-clause-sum
returns-clause-sum c rs x =
    let same : c.of-counters.result ≡ c.args.self.now.counters.items = search rules in
    let slice : c.as_slice-2.result.now ≡ c.args.self.now.sites.items = c.as_slice-2.ensures.value in
    let as_many : length c.in_ok-sites.sites ≡ length c.as_slice-2.result.now = c.in_ok-sites.ensures.len in
    let sites_len : length (sites_of c.args.self.now.sites.items) ≡ length c.args.self.now.sites.items = simp length-map in
    let len : length c.in_ok-sites.sites ≡ length (sites_of c.args.self.now.sites.items) =
    as_many ∙ (ap (λ (vs : List (Vec (Bor (List ℕ) × ℕ))). length vs) slice ∙ sym sites_len) in
    let merged : (s : ℕ) → s < length c.args.self.now.sites.items → IsMergedSite (slice_index_or (sites_of c.args.self.now.sites.items) s []) (slice_index_or c.in_ok-sites.sites s []) =
    subst (λ (vs : List (Vec (Bor (List ℕ) × ℕ))). (s : ℕ) → s < length vs → IsMergedSite (slice_index_or (sites_of vs) s []) (slice_index_or c.in_ok-sites.sites s [])) slice c.in_ok-sites.ensures.merged in
    sum_of_tally c.args.self.now.counters.items (sites_of c.args.self.now.sites.items) c.args.self.now.other_counters c.args.self.now.other_sites rs _
    x.counters x.sites c.in_default.is c.in_default-other_sites.is same len (λ s low. merged s (omega (arith, sites_len)))
