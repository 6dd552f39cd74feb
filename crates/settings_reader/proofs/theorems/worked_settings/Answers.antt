use Rattle.std.proofs.Common.{refl, [], ◌∷◌, Ok, Err, codes}
use Rattle.std.specs.Str.{chars}
use Rattle.std.specs.Fmt.{digits}
use Rattle.std.proofs.Math.Utf8.{encode}
use Rattle.reachability.specs.Paths.{reached, reaches, spread}
use Rattle.serde_json.specs.Data.{array, item, member, no_items, no_members, object, string}
use Rattle.json_readers.specs.Faults.{pointed}
use Rattle.target_table.specs.declared.fault.TargetFault.TheVariants.{CyclicTargets}
use Rattle.settings_reader.specs.Lists.{os_list, target_at, target_list}
use Rattle.settings_reader.specs.Order.{head_of, tail_of}
use Rattle.site_settings.specs.Standard.{compilers, conflict_budget, os, platform, provided_together, targets}
use Rattle.settings_reader.specs.Told.{misread}
use Rattle.settings_reader.specs.declared.stop.What.TheVariants.{Empty, Targets, UnknownKey}
use Rattle.settings_reader.proofs.theorems.worked_settings.Goals as goal

pub returns-clause-standard : goal.returns-clause-standard
unfolding head_of tail_of spread reached reaches
returns-clause-standard c = record {
  step = Ok no_members;
  told = refl;
  goes =
      record {
        step = Ok (record { platform = platform; conflict_budget = conflict_budget; os = os; targets = targets });
        told = refl;
        goes =
            record {
              step = Ok targets;
              told = refl;
              goes =
                  record {
                    step = Ok (record { compilers = compilers; providers = []; provided_together = provided_together });
                    told = refl;
                    goes =
                        record { step = Ok []; told = record { inner = Ok []; right = refl; is = refl }; goes = refl };
                  };
            };
      };
}

pub returns-clause-empty : goal.returns-clause-empty
unfolding head_of os_list pointed chars digits encode
returns-clause-empty c =
    let m = misread Empty (codes "/os") in
    record {
      misread = m;
      first =
          record {
            step = Ok (member (codes "os") (array no_items) no_members);
            told = refl;
            goes =
                record { step = Err m; told = refl; goes = refl };
          };
      is = refl;
    }

pub returns-clause-unknown : goal.returns-clause-unknown
unfolding pointed chars digits encode
returns-clause-unknown c =
    let m = misread UnknownKey (codes "/color") in
    record { misread = m; first = record { step = Err m; told = refl; goes = refl }; is = refl }

pub returns-clause-cyclic : goal.returns-clause-cyclic
unfolding head_of target_list target_at spread reached reaches pointed chars digits encode
returns-clause-cyclic c =
    let a = codes "a" in
    let m = misread (Targets CyclicTargets) [] in
    let d = array (item (object (member (codes "name") (string a) (member (codes "parents") (array (item (string a) no_items)) no_members)))
    no_items) in
    record {
      misread = m;
      first =
          record {
            step = Ok (member (codes "targets") d no_members);
            told = refl;
            goes =
                record {
                  step = Ok (record {
                    platform = platform;
                    conflict_budget = conflict_budget;
                    os = os;
                    targets =
                        record { name = a; parents = a ∷ [] } ∷ [];
                  });
                  told = refl;
                  goes =
                      record { step = Err m; told = refl; goes = refl };
                };
          };
      is = refl;
    }
