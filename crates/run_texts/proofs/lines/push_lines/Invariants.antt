use Rattle.std.proofs.Common.{◌≡◌, ◌++◌, drop}
use Rattle.run_texts.specs.SiteLines.{lines_from}
use Rattle.run_texts.proofs.lines.push_lines.Given as goal

-- what is put, and the lines of the rows that are left, come to all lines
abbrev pub invariant-loop-site : goal.invariant-loop-site
invariant-loop-site l = l.text.items ++ lines_from l.name l.site (drop l.site l.rows) ≡ l.fn.text.items ++ lines_from l.name 0 l.rows
