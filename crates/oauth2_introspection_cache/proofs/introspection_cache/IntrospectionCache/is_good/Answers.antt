use Rattle.std.proofs.Common.{rules}
use Rattle.std.specs.Map.{lookup}
use Rattle.oauth2_types.specs.Digest.{digest_eq}
use Rattle.oauth2_introspection_cache.proofs.Kept.{good_found}
use Rattle.oauth2_introspection_cache.proofs.introspection_cache.IntrospectionCache.is_good.Goals as goal

pub returns-in-Some : goal.returns-in-Some
returns-in-Some g c =
    good_found g.TIR.TokenIntrospectionResponse.exp c.args.self.now.longest c.args.now.nanosecond
    (lookup (digest_eq c.args.token.now) c.args.self.now.kept.entries) c.in-Some.kept.now c.is_good.result (search rules) (search rules)
