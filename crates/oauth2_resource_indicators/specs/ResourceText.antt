-- The texts of a `ResourceFault`.
use Rattle.std.specs.Prelude.{ℕ, List, codes}
use Rattle.oauth2_resource_indicators.specs.declared.resource_fault.ResourceFault.{ResourceFault}
use Rattle.oauth2_resource_indicators.specs.declared.resource_fault.ResourceFault.TheVariants.{ResourceIsNoUri, Memory}

-- the text of each fault
abbrev pub resource_fault_text : ResourceFault → List ℕ
resource_fault_text ResourceIsNoUri = codes "resource is not an absolute URI without a fragment"
resource_fault_text Memory = codes "Out of memory"
