-- What is read over files that are the same where it is read.
use Rattle.std.proofs.Common.{◌≡◌, refl, sym, ap, ◌∙◌, ℕ, Bool, true, false, List, [], ◌∷◌, Option, None, Result, Ok, Err, if◌then◌else◌}
use Rattle.std.specs.Prelude.{nat_le, length}
use Rattle.std.specs.FinMap.{get}
use Rattle.outside_desk.specs.Files.{Files}
use Rattle.outside_desk.specs.Listing.{names_in}
use Rattle.reuse_db.specs.declared.record.Record.{Record}
use Rattle.site_settings.specs.declared.settings.Settings.{Settings}
use Rattle.spec_grammar.specs.Signs.{is_name}
use Rattle.run_input.specs.Bytes.{bytes_at, limit_of, too_large}
use Rattle.run_input.specs.Inputs.{ReadsInput}
use Rattle.run_input.specs.Installed.{DatabaseBy}
use Rattle.run_input.specs.Paths.{packages_path, recipe_path}
use Rattle.run_input.specs.Refusal.{Refusal}
use Rattle.run_input.specs.Refusal.TheVariants as refusals
use Rattle.run_input.specs.Sites.{SettingsBy}
use Rattle.run_input.specs.Sources.{SourcePile, no_files, pile_by, pile_of, recipe_file_at, with_entries, with_entry}
use Rattle.run_input.specs.Stages.{◌>>=◌, check, or_refuse}
use Rattle.run_input.specs.Words.{Command, is_dash_path}
use Rattle.run_input.specs.declared.file.WholeFile.{WholeFile}
use Rattle.run_input.specs.declared.file.WholeFile.TheVariants as kinds
use Rattle.run_input.specs.declared.input.Input.{Input}

module _ (before after : Files) where
  pub same_bytes : (path : List ℕ) (file : WholeFile) → get after path ≡ get before path
      → bytes_at before path file ≡ bytes_at after path file
  unfolding bytes_at
  same_bytes path file same =
      ap (λ (o : Option (List ℕ)). or_refuse (refusals.MissingInput path) o >>= λ bytes.
      check (too_large file) (nat_le (length bytes) (limit_of file)) >>= λ short. Ok bytes) (sym same)

  settings : (dash : Bool) (path : List ℕ) → get after path ≡ get before path → (s : Settings)
      → SettingsBy dash before path (Ok s) → SettingsBy dash after path (Ok s)
  settings true path same s read = read
  settings false path same s (bytes, at, is) = (bytes, at ∙ same_bytes path kinds.Settings same, is)

  database : (dash : Bool) (path : List ℕ) → get after path ≡ get before path → (records : List Record)
      → DatabaseBy dash before path (Ok records) → DatabaseBy dash after path (Ok records)
  database true path same records read = read
  database false path same records (bytes, at, is) = (bytes, at ∙ same_bytes path kinds.Database same, is)

  module _ (repo : List ℕ) (recipes : (name : List ℕ) → get after (recipe_path repo name) ≡ get before (recipe_path repo name))
      (names : names_in after (packages_path repo) ≡ names_in before (packages_path repo)) where
    same_recipe : (name : List ℕ) → recipe_file_at before repo name ≡ recipe_file_at after repo name
    unfolding recipe_file_at
    same_recipe name = ap (λ (o : Option (List ℕ)). if is_name name then o else None) (sym (recipes name))

    same_entries : (names : List (List ℕ)) (pile : SourcePile) → with_entries before repo pile names ≡ with_entries after repo pile names
    same_entries [] pile = refl
    same_entries (name ∷ more) pile =
        ap (λ (o : Option (List ℕ)). with_entry pile name o >>= λ next. with_entries before repo next more) (same_recipe name)
        ∙ same_behind (same_entries more) (with_entry pile name (recipe_file_at after repo name))
      where
        same_behind : ((pile : SourcePile) → with_entries before repo pile more ≡ with_entries after repo pile more)
            → (next : Result SourcePile Refusal) → (next >>= λ pile. with_entries before repo pile more)
            ≡ (next >>= λ pile. with_entries after repo pile more)
        same_behind later (Ok pile) = later pile
        same_behind later (Err refusal) = refl

    same_by : (found : List (List ℕ)) → pile_by before repo found ≡ pile_by after repo found
    same_by [] = refl
    same_by (name ∷ more) = same_entries (name ∷ more) no_files

    same_pile : pile_of before repo ≡ pile_of after repo
    unfolding pile_of
    same_pile = same_by (names_in before (packages_path repo)) ∙ ap (pile_by after repo) (sym names)

  -- the input is the same
  pub read_again : (c : Command) → get after c.settings ≡ get before c.settings → get after c.database ≡ get before c.database
      → ((name : List ℕ) → get after (recipe_path c.repo name) ≡ get before (recipe_path c.repo name))
      → names_in after (packages_path c.repo) ≡ names_in before (packages_path c.repo) → (input : Input)
      → ReadsInput before c (Ok input) → ReadsInput after c (Ok input)
  read_again c site base recipes names input (stock, (s, is_site, (rows, (pile, at, over), (records, is_base, made))), posed) =
      let settled = settings (is_dash_path c.settings) c.settings site s is_site in
      let installed = database (is_dash_path c.database) c.database base records is_base in
      (stock, (s, settled, (rows, (pile, at ∙ same_pile c.repo recipes names, over), (records, installed, made))), posed)
