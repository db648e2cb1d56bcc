-- What grounding answers where there are no instances.
use Rattle.ms_instances.specs.declared.fault.InstanceFault.{InstanceFault}
use Rattle.ms_instances.specs.declared.fault.InstanceFault.TheVariants.{TooMany, OutOfMemory as no_memory}
use Rattle.ms_ctxground.specs.declared.fault.GroundFault.{GroundFault}
use Rattle.ms_ctxground.specs.declared.fault.GroundFault.TheVariants.{TooLarge, OutOfMemory}

abbrev pub fault_of : InstanceFault → GroundFault
fault_of TooMany = TooLarge
fault_of no_memory = OutOfMemory
