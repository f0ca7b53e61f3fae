-- The fields of a response to an exchange read back.
use Rattle.std.proofs.Common.{refl}
use Rattle.oauth2_replies.specs.Kept.{AreFieldsKept}
use Rattle.oauth2_grants.specs.ExchangeFields.{exchange_fields, exchange_fields_reading, exchange_fields_writing, issued_type_of}
use Rattle.oauth2_grants.specs.declared.exchange_fields.ExchangeFields.{ExchangeFields}

pub fields_kept : (fields : ExchangeFields) → AreFieldsKept exchange_fields_reading issued_type_of (λ f. exchange_fields_writing (issued_type_of f)) fields
fields_kept fields = record { members = exchange_fields (issued_type_of fields); written = refl; back = refl }
