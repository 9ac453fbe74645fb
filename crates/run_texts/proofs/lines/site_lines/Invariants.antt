use Rattle.std.proofs.Common.{◌≡◌, take}
use Rattle.run_texts.specs.SiteLines.{site_lines}
use Rattle.run_texts.proofs.lines.site_lines.Given as goal

abbrev pub invariant-loop-tally : goal.invariant-loop-tally
invariant-loop-tally l = l.text.items ≡ site_lines (take l.tally-index l.tallies) l.rows
