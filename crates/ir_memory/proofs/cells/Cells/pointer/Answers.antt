use Rattle.std.proofs.Common.{◌≡◌, ◌≢◌, List, ℕ, take, drop, get_or, sym, ap, ◌∙◌, true, Result, Ok, arith}
use Rattle.std.proofs.lemmas.List.{get_or_default}
use Rattle.ir_memory.specs.declared.error.MemError.{MemError}
use Rattle.ir_memory.specs.declared.value.Value.{Value}
use Rattle.ir_memory.specs.Bytes.{number_of}
use Rattle.ir_memory.specs.Contents.{value_in}
use Rattle.ir_memory.specs.Packed.{no_pointer}
use Rattle.ir_memory.proofs.PackedLemmas.{sizes, kept_between}
use Rattle.ir_memory.proofs.ReadLemmas.{reads_pieces, reads_zeros, reads_bad, eight_at, view_at}
use Rattle.ir_memory.proofs.cells.Cells.pointer.Goals as goal
use Rattle.ir_memory.proofs.cells.Cells.pointer.Goals.{else-tags-eq0-via-then-tags-eq0+else-word_at-eq0, else-tags-eq0-via-else-tags-eq0}

pub word_at-tags-requires : goal.word_at-tags-requires
word_at-tags-requires c =
    let i = c.self.inside in
    let s = sizes i.pointers.items i.values.items i.tags.items c.args.self.now c.self.invariant c.self.view_is in
    omega arith

pub index-requires : goal.index-requires
index-requires c =
    let i = c.self.inside in
    let s = sizes i.pointers.items i.values.items i.tags.items c.args.self.now c.self.invariant c.self.view_is in
    omega arith

pub word_at-requires : goal.word_at-requires
word_at-requires c =
    let i = c.self.inside in
    let s = sizes i.pointers.items i.values.items i.tags.items c.args.self.now c.self.invariant c.self.view_is in
    omega arith

pub returns-then-tags-eq-PIECE_TAGS_WORD : goal.returns-then-tags-eq-PIECE_TAGS_WORD
returns-then-tags-eq-PIECE_TAGS_WORD c =
    let i = c.self.inside in
    let at = c.args.at in
    let vs = take 8 (drop at i.values.items) in
    let ts = take 8 (drop at i.tags.items) in
    let s = sizes i.pointers.items i.values.items i.tags.items c.args.self.now c.self.invariant c.self.view_is in
    let kept = kept_between i.pointers.items at 8 i.values.items i.tags.items c.self.invariant.kept in
    let n : number_of ts ≡ 0x0807060504030201 =
    sym (ap (λ (x : List ℕ). number_of (take 8 (drop at x))) c.deref.ensures.value) ∙ sym c.word_at-tags.ensures ∙ c.if-tags-eq-PIECE_TAGS_WORD.true in
    let p = c.index.result.now in
    let q : get_or i.pointers.items at no_pointer ≡ p = get_or_default i.pointers.items at no_pointer p (omega arith) ∙ sym c.index.ensures in
    let r = reads_pieces i.pointers.items at vs ts kept (eight_at i.tags.items at (omega arith)) n p q in
    let ok : Value → Result Value MemError = λ v. Ok v in
    ap ok c.value.ensures ∙ sym r ∙ ap (value_in true) (view_at i.pointers.items at i.values.items i.tags.items c.args.self.now c.self.view_is)

pub returns-then-word_at-eq0 : goal.returns-then-word_at-eq0
returns-then-word_at-eq0 c =
    let i = c.self.inside in
    let at = c.args.at in
    let vs = take 8 (drop at i.values.items) in
    let ts = take 8 (drop at i.tags.items) in
    let s = sizes i.pointers.items i.values.items i.tags.items c.args.self.now c.self.invariant c.self.view_is in
    let kept = kept_between i.pointers.items at 8 i.values.items i.tags.items c.self.invariant.kept in
    let n : number_of ts ≡ 0 =
    sym (ap (λ (x : List ℕ). number_of (take 8 (drop at x))) c.deref.ensures.value) ∙ sym c.word_at-tags.ensures ∙ c.if-tags-eq0.true in
    let m : number_of vs ≡ 0 =
    sym (ap (λ (x : List ℕ). number_of (take 8 (drop at x))) c.deref-then-tags-eq0.ensures.value) ∙ sym c.word_at.ensures ∙ c.if-word_at-eq0.true in
    let r = reads_zeros i.pointers.items at vs ts kept (eight_at i.tags.items at (omega arith)) n m in
    let ok : Value → Result Value MemError = λ v. Ok v in
    ap ok c.value-then-word_at-eq0.ensures ∙ sym r ∙ ap (value_in true) (view_at i.pointers.items at i.values.items i.tags.items c.args.self.now c.self.view_is)

pub returns : goal.returns
returns c =
    let i = c.self.inside in
    let at = c.args.at in
    let vs = take 8 (drop at i.values.items) in
    let ts = take 8 (drop at i.tags.items) in
    let s = sizes i.pointers.items i.values.items i.tags.items c.args.self.now c.self.invariant c.self.view_is in
    let kept = kept_between i.pointers.items at 8 i.values.items i.tags.items c.self.invariant.kept in
    let tag : number_of ts ≡ c.word_at-tags.result =
    sym (ap (λ (x : List ℕ). number_of (take 8 (drop at x))) c.deref.ensures.value) ∙ sym c.word_at-tags.ensures in
    let ne : number_of ts ≢ 0x0807060504030201 = λ e. c.if-tags-eq-PIECE_TAGS_WORD.false (sym tag ∙ e) in
    let nz : number_of ts ≡ 0 → number_of vs ≢ 0 = elim c.else-tags-eq0.branch as (λ _. number_of ts ≡ 0 → number_of vs ≢ 0) [
      | else-tags-eq0-via-then-tags-eq0+else-word_at-eq0 w ↦
          λ _ e.
          let m = sym (ap (λ (x : List ℕ). number_of (take 8 (drop at x))) w.deref-then-tags-eq0.ensures.value) ∙ sym w.word_at.ensures in
          w.if-word_at-eq0.false (sym m ∙ e)
      | else-tags-eq0-via-else-tags-eq0 w ↦ λ e _. w.if-tags-eq0.false (sym tag ∙ e)
    ] in
    sym (reads_bad i.pointers.items at vs ts kept (eight_at i.tags.items at (omega arith)) ne nz)
    ∙ ap (value_in true) (view_at i.pointers.items at i.values.items i.tags.items c.args.self.now c.self.view_is)
