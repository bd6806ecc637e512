use Rattle.store_contract.proofs.NameLemmas.{names-of_copies}
use Rattle.store_contract.proofs.laws.names_stand_for_copies.Goals as goal

pub returns : goal.returns
returns c names d sender n ks new sound e = names-of_copies names d sender n ks new sound e
