-- The texts of errors of adapters.
use Rattle.std.specs.Prelude.{ℕ, List, Option, Some, codes}
use Rattle.oauth2_adapters.specs.declared.error.AdapterError.{AdapterError}
use Rattle.oauth2_adapters.specs.declared.error.AdapterError.TheVariants.{Client, Memory}

-- the text of an error of an adapter: the inner client's error has its own text
abbrev pub adapter_error_text : {E : Type 0} → (E → Option (List ℕ)) → AdapterError E
    → Option (List ℕ)
adapter_error_text text (Client error) = text error
adapter_error_text text Memory = Some (codes "out of memory")
