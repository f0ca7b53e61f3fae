-- The texts of a `GrantFault`.
use Rattle.std.specs.Prelude.{ℕ, List, codes}
use Rattle.oauth2_grants.specs.declared.grant_fault.GrantFault.{GrantFault}
use Rattle.oauth2_grants.specs.declared.grant_fault.GrantFault.TheVariants.{GrantTypeIsNoUri, NameIsTaken, ResourceIsNoUri, TokenTypeIsNoUri, Memory}

-- the text of each fault
abbrev pub grant_fault_text : GrantFault → List ℕ
grant_fault_text GrantTypeIsNoUri = codes "grant type is not an absolute URI"
grant_fault_text NameIsTaken = codes "the request itself sends a parameter of this name"
grant_fault_text ResourceIsNoUri = codes "resource is not an absolute URI without a fragment"
grant_fault_text TokenTypeIsNoUri = codes "token type is not an absolute URI"
grant_fault_text Memory = codes "Out of memory"
