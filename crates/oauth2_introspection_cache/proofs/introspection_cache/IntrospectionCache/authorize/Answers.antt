use Rattle.std.proofs.Common.{rules}
use Rattle.oauth2_introspection_cache.proofs.introspection_cache.IntrospectionCache.authorize.Goals as goal

pub returns-clause-decides : goal.returns-clause-decides
returns-clause-decides g c = (c.is_active-active.result, c.is_active-active.ensures.call, search rules)
