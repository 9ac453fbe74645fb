use Rattle.cfg_edges.proofs.Worked.{made}
use Rattle.cfg_edges.proofs.tests.looping.Goals as goal

pub returns : goal.returns
returns c = made c.new-blocks.result.items c.push.new.self.items c.push-2.new.self.items c.push-3.new.self.items c.push-4.new.self.items _ _ _ _ c.new-blocks.ensures.items c.in_ok-push.ensures.items c.in_ok-push-2.ensures.items c.in_ok-push-3.ensures.items c.in_ok-push-4.ensures.items c.in_ok-entry.ensures c.in_ok-head.ensures c.in_ok-body.ensures c.in_ok-done.ensures
