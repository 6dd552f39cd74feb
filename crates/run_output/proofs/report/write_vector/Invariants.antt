use Rattle.std.proofs.Common.{◌≡◌, ◌∷◌, ◌++◌, take, codes, decimal}
use Rattle.std.specs.List.{flat_map}
use Rattle.run_output.proofs.report.write_vector.Given as goal

abbrev pub invariant-loop-number : goal.invariant-loop-number
invariant-loop-number l = l.out.items ≡ l.fn.out.items ++ (codes "vector" ++ flat_map (λ n. 32 ∷ decimal n) (take l.number-index l.numbers))
