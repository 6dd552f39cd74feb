-- What stands in a file at the keys of lists weighs two for each entry; what does not stand there is standard.
use Rattle.std.proofs.Common.{◌≡◌, ap, ℕ, ◌+◌, ◌*◌, ◌≤◌, List, [], length, Option, Some, None, Ok, codes, arith}
use Rattle.std.specs.List.{sum_by}
use Rattle.std.specs.Option.{unwrap_or}
use Rattle.std.specs.Ordering.{nat_cmp}
use Rattle.std.specs.Cmp.Lexicographic.{slice_cmp}
use Rattle.serde_json.specs.Data.{Data, Members}
use Rattle.json_readers.specs.Faults.{Reading, ◌>>=◌}
use Rattle.json_readers.specs.Lists.{list_of, not_empty, distinct}
use Rattle.json_readers.specs.Objects.{may}
use Rattle.json_readers.specs.Texts.{text_of}
use Rattle.json_readers.specs.Maps.{known_map_of}
use Rattle.json_texts.specs.Forms.{name_meaning, plain_meaning}
use Rattle.file_limits.specs.Weights.{weight_at}
use Rattle.json_readers.proofs.Steps.{bind_ok, ok_same}
use Rattle.file_limits.proofs.Readers.{CountsWithin, count_or_none, known_map-counts, list-counts, may-counts, one-counts}
use Rattle.settings_reader.specs.Keys.{may_or, os_at, target_entries_at, compilers_at, provider_entries_at}
use Rattle.settings_reader.specs.Lists.{os_list, target_at, target_list, compiler_entry_at, compiler_list, compiler_pair_cmp, compiler_pairs, provider_list}
use Rattle.site_settings.specs.Standard as standard
use Rattle.site_settings.specs.declared.settings.CompilerEntry.{CompilerEntry}
use Rattle.target_table.specs.declared.entry.TargetEntry.{TargetEntry}
use Rattle.problem.specs.Limits.{provider_names}
use Rattle.file_limits.proofs.Sums.{sum-ones, sum-twice}

-- ---- lists

abbrev twice_length : {T : Type 0} → List T → ℕ
twice_length xs = 2 * length xs

-- each item weighs one, and its comma
each_twice : {T : Type 0} (read : Data → Reading T) → CountsWithin twice_length (list_of read)
each_twice read d xs e = omega (arith, list-counts (λ x. 1) read (one-counts read) d xs e, sum-ones xs)

module _ {T : Type 0} (size : List T → ℕ) (read : Data → Reading (List T)) (within : CountsWithin size read) where
  -- a test behind the list takes nothing from it
  once_tested : (test : List T → Reading (Unit {0})) → CountsWithin size (λ d. read d >>= λ xs. test xs >>= λ _. Ok xs)
  once_tested test d ys e =
      let xs = bind_ok {B = List T} (read d) (λ xs. test xs >>= λ _. Ok xs) ys e in
      let tested = bind_ok {B = List T} (test xs.0) (λ _. Ok xs.0) ys xs.2 in
      omega (arith, within d xs.0 xs.1, ap size (ok_same xs.0 ys tested.2))

  twice_tested : (test more : List T → Reading (Unit {0}))
      → CountsWithin size (λ d. read d >>= λ xs. test xs >>= λ _. more xs >>= λ _. Ok xs)
  twice_tested test more d ys e =
      let xs = bind_ok {B = List T} (read d) (λ xs. test xs >>= λ _. more xs >>= λ _. Ok xs) ys e in
      let tested = bind_ok {B = List T} (test xs.0) (λ _. more xs.0 >>= λ _. Ok xs.0) ys xs.2 in
      let again = bind_ok {B = List T} (more xs.0) (λ _. Ok xs.0) ys tested.2 in
      omega (arith, within d xs.0 xs.1, ap size (ok_same xs.0 ys again.2))

os_most : CountsWithin twice_length os_list
unfolding os_list
os_most =
    twice_tested twice_length (list_of (text_of plain_meaning)) (each_twice (text_of plain_meaning)) not_empty
    (distinct (slice_cmp nat_cmp))

targets_most : CountsWithin twice_length target_list
unfolding target_list
targets_most = once_tested twice_length (list_of target_at) (each_twice target_at) not_empty

compilers_most : CountsWithin twice_length compiler_list
unfolding compiler_list
compilers_most =
    twice_tested twice_length (list_of compiler_entry_at) (each_twice compiler_entry_at) not_empty
    (λ entries. distinct compiler_pair_cmp (compiler_pairs entries))

names_most : CountsWithin twice_length provider_list
unfolding provider_list
names_most = once_tested twice_length (list_of (text_of name_meaning)) (each_twice (text_of name_meaning)) (distinct (slice_cmp nat_cmp))

abbrev providers_size : List (List ℕ × List (List ℕ)) → ℕ
providers_size lists = 2 * sum_by provider_names lists

providers_most : CountsWithin providers_size (known_map_of name_meaning provider_list)
providers_most d lists e =
    omega (arith, known_map-counts twice_length provider_list names_most name_meaning d lists e, sum-twice provider_names lists)

-- ---- keys

-- what stands at a key, or else the standard
or_standard : {T : Type 0} (size : T → ℕ) (standard : T) (found : Option T) → size (unwrap_or found standard)
    ≤ count_or_none size found + size standard
or_standard size standard None = omega arith
or_standard size standard (Some x) = omega arith

may_or_most : {T : Type 0} (size : T → ℕ) (standard : T) (read : Data → Reading T) → CountsWithin size read → (key : List ℕ) (ms : Members)
    (x : T) → may_or standard read key ms ≡ Ok x → size x ≤ weight_at ms key + size standard
may_or_most {T} size standard read within key ms x e =
    let found = bind_ok {B = T} (may read key ms) (λ found. Ok (unwrap_or found standard)) x e in
    omega (
      arith,
      may-counts size read within key ms found.0 found.1,
      or_standard size standard found.0,
      ap size (ok_same (unwrap_or found.0 standard) x found.2),
    )

-- the list of OSs weighs two for each, but for the standard one
pub os_at_most : (ms : Members) (os : List (List ℕ)) → os_at ms ≡ Ok os → 2 * length os ≤ weight_at ms (codes "os") + 2
os_at_most = may_or_most twice_length standard.os os_list os_most (codes "os")

-- so does that of targets
pub targets_at_most : (ms : Members) (targets : List TargetEntry) → target_entries_at ms ≡ Ok targets
    → 2 * length targets ≤ weight_at ms (codes "targets") + 2
targets_at_most = may_or_most twice_length standard.targets target_list targets_most (codes "targets")

-- so does that of compilers
pub compilers_at_most : (ms : Members) (compilers : List CompilerEntry) → compilers_at ms ≡ Ok compilers
    → 2 * length compilers ≤ weight_at ms (codes "compilers") + 2
compilers_at_most = may_or_most twice_length standard.compilers compiler_list compilers_most (codes "compilers")

-- the lists of providers weigh two for each name in them
pub providers_at_most : (ms : Members) (lists : List (List ℕ × List (List ℕ))) → provider_entries_at ms ≡ Ok lists
    → 2 * sum_by provider_names lists ≤ weight_at ms (codes "providers") + 0
providers_at_most = may_or_most providers_size [] (known_map_of name_meaning provider_list) providers_most (codes "providers")
