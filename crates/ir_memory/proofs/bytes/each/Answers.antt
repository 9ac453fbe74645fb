use Rattle.std.proofs.Common.{length, arith, rules}
use Rattle.ir_memory.proofs.ByteLemmas.{number_back, back_fits, word_fits}
use Rattle.ir_memory.proofs.bytes.each.Goals as goal

pub overflow_mul-n : goal.overflow_mul-n
overflow_mul-n c =
    let w = word_fits (length c.args.bytes.now) c.loop-k.k c.loop-k.n c.from.result (omega arith) (omega arith) (omega arith) c.loop-k.invariant.fits (omega arith) in
    search rules

pub overflow_add-n : goal.overflow_add-n
overflow_add-n c =
    let w = word_fits (length c.args.bytes.now) c.loop-k.k c.loop-k.n c.from.result (omega arith) (omega arith) (omega arith) c.loop-k.invariant.fits (omega arith) in
    search rules

pub loop-k-preserved : goal.loop-k-preserved
loop-k-preserved c = record {
  value = number_back c.args.bytes.now c.loop-k.k c.loop-k.n c.from.result 0 (omega arith) (omega arith) c.loop-k.invariant.value c.from.ensures;
  fits = back_fits (length c.args.bytes.now) c.loop-k.k c.loop-k.n c.from.result (omega arith) (omega arith) c.loop-k.invariant.fits (omega arith);
}
