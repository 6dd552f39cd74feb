use Rattle.cost_vector.proofs.Halves.{other_term, unused_term, provider_term}
use Rattle.cost_vector.proofs.terms.summed_cost.Goals as goal

pub returns-in-OtherValues : goal.returns-in-OtherValues
returns-in-OtherValues c =
    rw (
      c.as_str-name.ensures,
      c.as_slice-variants.ensures,
      other_term c.args.summed c.args.problem.now c.args.graph.now c.args.node.now
          c.in-OtherValues.is,
    ) at c.over_variants.ensures

pub returns-in-UnusedDefaults : goal.returns-in-UnusedDefaults
returns-in-UnusedDefaults c =
    rw (
      c.as_str-name.ensures,
      c.as_slice-variants.ensures,
      unused_term c.args.summed c.args.problem.now c.args.graph.now c.args.node.now
          c.in-UnusedDefaults.is,
    ) at c.over_variants-in-UnusedDefaults.ensures

pub returns-in-Providers : goal.returns-in-Providers
returns-in-Providers c =
    rw (
      c.as_str-name.ensures,
      c.providers.ensures.providers,
      c.graph.ensures,
      provider_term c.args.summed c.args.problem.now
          c.args.graph.now c.args.node.now c.in-Providers.is,
    ) at c.provider_weights.ensures
