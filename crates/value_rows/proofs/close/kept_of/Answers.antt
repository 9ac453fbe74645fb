use Rattle.value_rows.proofs.Filled.{reads_cut}
use Rattle.value_rows.proofs.close.kept_of.Goals as goal

pub returns : goal.returns
returns c = reads_cut _ _ _ c.key_count-count.result c.copy_places.new.kept.items _ c.key_count-count.ensures.few c.copy_places.ensures.room c.truncate.ensures.items c.key_count-count.ensures.keys c.key_count-count.ensures.ends c.copy_places.ensures.copied
