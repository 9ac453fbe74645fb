use Rattle.std.proofs.Common.{◌≡◌, ◌<◌, ℕ, List, Result, IfOk, max, ap, ◌∙◌, arith}
use Rattle.rayon.specs.Lists.{chunks_of, chunks_size, chunks_slice, min_len_base}
use Rattle.rayon.proofs.ListFacts.{IfOk-then}
use Rattle.rayon.proofs.ToStd.{slice-AllZip}
use Rattle.pgo_base.specs.declared.errors.NoMemory.{NoMemory}
use Rattle.prof_view.specs.Profile.{ProfileInput}
use Rattle.prof_text.specs.declared.gathered.Gathered.{Gathered}
use Rattle.prof_merge.specs.Parts.{GathersInputs}
use Rattle.prof_merge.proofs.parts.parts_of.Goals as goal

size_is : (m n : ℕ) → m ≡ n → 0 < n → max m 1 ≡ n
size_is m n e pos = omega arith

pub returns : goal.returns
returns g c =
    let base = ap min_len_base c.map.ensures.base ∙ c.with_min_len.ensures.base in
    let size : max (chunks_size c.par_chunks.result) 1 ≡ c.args.size = size_is _ _ c.par_chunks.ensures.size c.requires in
    let chunks =
    ap (λ it. chunks_of (max (chunks_size it) 1) (chunks_slice it)) base
    ∙ (ap (chunks_of (max (chunks_size c.par_chunks.result) 1)) c.par_chunks.ensures.slice
    ∙ ap (λ (n : ℕ). chunks_of n c.args.views.now) size) in
    IfOk-then c.collect.result _ _ c.collect.ensures (λ v h.
    let chain = h.1 in
    rw h.2 (slice-AllZip chain.0 (chunks_of c.args.size c.args.views.now) (chain.1 ∙ chunks)
    (λ (run : List ProfileInput) (part : Result Gathered NoMemory). IfOk part (GathersInputs run)) h.0 chain.2))
