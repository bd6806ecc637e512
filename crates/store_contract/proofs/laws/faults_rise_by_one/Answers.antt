use Rattle.std.proofs.Common.{◌≡◌, refl, arith}
use Rattle.base_faults.specs.declared.store_fault.StoreFault.{StoreFault}
use Rattle.base_faults.specs.declared.store_fault.StoreFault.TheVariants.{Memory, Device, Full, Foreign}
use Rattle.store_contract.specs.Store.{Faults, counted, one_more, total}
use Rattle.store_contract.proofs.laws.faults_rise_by_one.Goals as goal

rises : (fault : StoreFault) (faults : Faults) → (fault ≡ Memory → ⊥) → total (counted fault faults) ≡ one_more (total faults)
rises Memory faults other = absurd (other refl)
rises Device faults other = omega arith
rises Full faults other = omega arith
rises Foreign faults other = omega arith

pub returns : goal.returns
returns c fault faults other = rises fault faults other
