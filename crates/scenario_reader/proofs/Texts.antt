-- Bytes that are a text, and bytes that are none.
use Rattle.std.proofs.Common.{◌≡◌, ap, sym, ◌∙◌, ℕ, List, Some, None}
use Rattle.std.specs.Str.{IsUtf8}
use Rattle.std.proofs.lemmas.Str.{IsUtf8-from_is_utf8, is_utf8-from_IsUtf8}
use Rattle.std.proofs.lemmas.Bool.{false_from_ne_true, cond-true, cond-false}
use Rattle.scenario_reader.specs.Texts.{text_of}

-- bytes that are UTF-8 are a text
pub text_right : (bytes word : List ℕ) → IsUtf8 bytes → word ≡ bytes → Some word ≡ text_of bytes
unfolding text_of
text_right bytes word right same = ap Some same ∙ sym (cond-true _ (Some bytes) None (is_utf8-from_IsUtf8 bytes right))

-- others are none
pub text_wrong : (bytes : List ℕ) → ¬ (IsUtf8 bytes) → None ≡ text_of bytes
unfolding text_of
text_wrong bytes wrong = sym (cond-false _ (Some bytes) None (false_from_ne_true _ (λ e. wrong (IsUtf8-from_is_utf8 bytes e))))
