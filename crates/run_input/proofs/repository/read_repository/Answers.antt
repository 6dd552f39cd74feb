use Rattle.std.proofs.Common.{refl, []}
use Rattle.run_answers.specs.Stages.{Is}
use Rattle.run_input.specs.Sources.{pile_of}
use Rattle.run_input.specs.Inputs.{OverSources}
use Rattle.run_input.proofs.Staged.{put_over}
use Rattle.run_input.proofs.repository.read_repository.Goals as goal

pub returns-clause-read : goal.returns-clause-read
returns-clause-read g c =
    put_over _ _ (λ path files. Is (pile_of files path)) (λ text pile. OverSources pile.files) _ c.args.repo.now c.args.repo.now [] []
    c.in_ok-sources.sources c.read_pile.result refl refl c.in_ok-sources.ensures.read c.read_pile.ensures.read
