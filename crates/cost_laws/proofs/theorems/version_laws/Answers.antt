use Rattle.cost_laws.proofs.Sorts.{sorted, declared, by-list, by-preferred, by-deprecated, by-special, by-age}
use Rattle.cost_laws.proofs.theorems.version_laws.Goals as goal

pub returns : goal.returns
returns c =
    let versions = c.laws.ensures.total in
    record {
      earlier_list = λ problem name a b here there list. sorted versions problem name a b here there
          (by-list versions problem name a b list);
      preferred = λ problem name a b here there list mine yours.
          sorted versions problem name a b here there (by-preferred versions problem name a b list mine yours);
      not_deprecated = λ problem name a b here there list preferred mine yours.
          sorted versions problem name a b here there (by-deprecated versions problem name a b list preferred mine yours);
      not_special = λ problem name a b here there list preferred deprecated mine yours.
          sorted versions problem name a b here there (by-special versions problem name a b list preferred deprecated mine yours);
      newer = λ problem name a b here there alike older.
          sorted versions problem name a b here there (by-age versions problem name a b alike older);
      declared = λ problem name version a here none. declared versions problem name version a here none;
    }
