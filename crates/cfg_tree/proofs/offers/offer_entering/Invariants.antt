use Rattle.cfg_tree.specs.declared.chains.End.TheVariants.{Head}
use Rattle.cfg_tree.proofs.offers.offer_entering.Given as goal

abbrev pub ghost-offer_chain : goal.ghost-offer_chain
ghost-offer_chain a = Head
