-- What the program answers of itself, without `run`.
use Rattle.std.specs.Prelude.{ℕ, List, [], ◌∷◌, Option, Some, None, codes, if◌then◌else◌}
use Rattle.std.specs.Str.{bytes_eq}
use Rattle.command_line.specs.declared.own_words.TheConstants.{HELP, VERSION}

-- the text that a word asks for
unfoldable pub text_for : List ℕ → Option (List ℕ)
text_for word =
    if bytes_eq word (codes "--help") then Some HELP.now
    else if bytes_eq word (codes "--version") then Some VERSION.now
    else None

-- the text that the words of a command line ask for: one word alone does
abbrev pub own_text : List (List ℕ) → Option (List ℕ)
own_text (word ∷ []) = text_for word
own_text others = None
