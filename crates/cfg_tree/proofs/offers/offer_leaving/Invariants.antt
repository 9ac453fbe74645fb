use Rattle.cfg_tree.specs.declared.chains.End.TheVariants.{Tail}
use Rattle.cfg_tree.proofs.offers.offer_leaving.Given as goal

abbrev pub ghost-offer_chain : goal.ghost-offer_chain
ghost-offer_chain a = Tail
