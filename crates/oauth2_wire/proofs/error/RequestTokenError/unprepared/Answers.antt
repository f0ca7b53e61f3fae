use Rattle.std.proofs.Common.{inl, inr}
use Rattle.oauth2_wire.proofs.error.RequestTokenError.unprepared.Goals as goal

pub returns-in-NotHttp : goal.returns-in-NotHttp
returns-in-NotHttp g c = elim c.with_text.ensures [ inl said ↦ inl (c.in-NotHttp.is, said) | inr memory ↦ inr memory ]
