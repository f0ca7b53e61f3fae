-- The issuers that a client expects, as contracts see them.
use Rattle.std.specs.Prelude.{map, string_bytes}
use Rattle.oauth2_openid.specs.declared.issuer_rule.IssuerRule.{IssuerRule}
use Rattle.oauth2_openid.specs.declared.issuer_rule.IssuerRule.TheVariants.{Is, OneOf, PerTenant}
use Rattle.oauth2_openid.specs.Claims.{NamedIssuers, is, one_of, per_tenant}

-- the issuers of an `IssuerRule`, their texts as bytes
abbrev pub named_issuers : IssuerRule → NamedIssuers
named_issuers (Is issuer) = is (string_bytes issuer)
named_issuers (OneOf issuers) = one_of (map string_bytes issuers.items)
named_issuers (PerTenant before after) = per_tenant (string_bytes before) (string_bytes after)
