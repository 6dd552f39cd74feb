-- One member more of a map.
use Rattle.std.proofs.Common.{◌≡◌, refl, sym, ap, ◌∙◌, ℕ, List, [], ◌∷◌, ◌++◌, append_assoc, Option, Ok, Err}
use Rattle.serde_json.specs.Data.{Data, Members, member}
use Rattle.json_readers.specs.Faults.{Reading, ◌>>=◌}
use Rattle.json_readers.specs.Maps.{entries_of, entry_of, and_entry, after_entries}

moved : {T : Type 0} (done : List (List ℕ × T)) (key : List ℕ) (x : T) (rest : Reading (List (List ℕ × T)))
    → after_entries done (and_entry key x rest) ≡ after_entries (done ++ (key, x) ∷ []) rest
moved done key x (Ok ys) = ap Ok (sym (append_assoc done ((key, x) ∷ []) ys))
moved done key x (Err fault) = refl

-- one entry of a map more was read
pub entries_more : {T : Type 0} (means : List ℕ → Option (List ℕ)) (read : Data → Reading T) (whole : Reading (List (List ℕ × T)))
    (done new : List (List ℕ × T)) (key word : List ℕ) (d : Data) (x : T) (ms : Members)
    → whole ≡ after_entries done (entries_of means read (member key d ms)) → entry_of means read key d ≡ Ok x → word ≡ key
    → new ≡ done ++ (word, x) ∷ [] → whole ≡ after_entries new (entries_of means read ms)
entries_more means read whole done new key word d x ms was is same now =
    was ∙ ap (λ r. after_entries done (r >>= λ y. and_entry key y (entries_of means read ms))) is
    ∙ moved done key x (entries_of means read ms)
    ∙ ap (λ k. after_entries (done ++ (k, x) ∷ []) (entries_of means read ms)) (sym same)
    ∙ ap (λ n. after_entries n (entries_of means read ms)) (sym now)
