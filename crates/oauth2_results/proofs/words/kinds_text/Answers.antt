use Rattle.std.proofs.Common.{refl, lit<}
use Rattle.std.specs.List.{Contains}
use Rattle.oauth2_world.specs.declared.event.FaultKind.{FaultKind}
use Rattle.oauth2_world.specs.declared.event.FaultKind.TheVariants as kind
use Rattle.oauth2_results.specs.Words.{kinds}
use Rattle.oauth2_results.proofs.words.kinds_text.Goals as goal

place : (k : FaultKind) → Contains kinds k
place kind.MissingEndpoint = (0, lit< tt, refl)
place kind.InsecureEndpoint = (1, lit< tt, refl)
place kind.RequestFailed = (2, lit< tt, refl)
place kind.ErrorResponse = (3, lit< tt, refl)
place kind.UnreadReply = (4, lit< tt, refl)
place kind.OtherTokenType = (5, lit< tt, refl)
place kind.OtherError = (6, lit< tt, refl)
place kind.OutOfMemory = (7, lit< tt, refl)
place kind.RefusedRedirect = (8, lit< tt, refl)
place kind.OtherClient = (9, lit< tt, refl)
place kind.OtherTokenEndpoint = (10, lit< tt, refl)
place kind.OtherRedirectUri = (11, lit< tt, refl)
place kind.OtherStatus = (12, lit< tt, refl)
place kind.BadMetadata = (13, lit< tt, refl)
place kind.OtherIssuer = (14, lit< tt, refl)
place kind.BadIssuer = (15, lit< tt, refl)
place kind.BadToken = (16, lit< tt, refl)
place kind.BadClaims = (17, lit< tt, refl)
place kind.BadSignature = (18, lit< tt, refl)
place kind.UncheckedSignature = (19, lit< tt, refl)
place kind.BadKeys = (20, lit< tt, refl)
place kind.BadAccessToken = (21, lit< tt, refl)
place kind.TakenParameter = (22, lit< tt, refl)
place kind.BadPush = (23, lit< tt, refl)

pub returns-clause-all : goal.returns-clause-all
returns-clause-all c = place
