-- Bytes are a JSON text, or none.
use Rattle.std.proofs.Common.{◌≡◌, refl, sym, ◌∙◌, ℕ, Bool, true, false, List, ◌⊎◌, inl, inr, Option, Some, None}
use Rattle.std.specs.Str.{is_utf8}
use Rattle.std.proofs.lemmas.Str.{IsUtf8-from_is_utf8, is_utf8-from_IsUtf8}
use Rattle.std.proofs.lemmas.Option.{none-some}
use Rattle.serde_json.specs.Data.{Data}
use Rattle.serde_json.specs.Read.{read}
use Rattle.json_readers.specs.Json.{IsJson, IsNoJson}

pub json_or_none : (bytes : List ℕ) → ((d : Data) × IsJson bytes d) ⊎ IsNoJson bytes
json_or_none bytes = go (is_utf8 bytes) (read bytes) refl refl
  where
    go : (b : Bool) (o : Option Data) → is_utf8 bytes ≡ b → read bytes ≡ o → ((d : Data) × IsJson bytes d) ⊎ IsNoJson bytes
    go false o utf8 is = inr (λ d json. let bad : true ≡ false = sym (is_utf8-from_IsUtf8 bytes json.0) ∙ utf8 in cc)
    go true None utf8 is = inr (λ d json. none-some d (sym is ∙ json.1))
    go true (Some d) utf8 is = inl (d, (IsUtf8-from_is_utf8 bytes utf8, is))
