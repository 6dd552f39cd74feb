-- The names that most proofs cite, passed on from one place. Declares nothing.
pub use Rattle.std.specs.List.{AllByRecursion, list_all, prefix_len, before_first, after_first, list_any, position_or_len}
pub use Rattle.std.proofs.lemmas.Bool.{cases_Bool, and_parts, cases_lt, or_from, false_from_ne_true, cases_order, or_parts}
pub use Rattle.std.proofs.lemmas.Bool.Decides.{nat_tests}
pub use Rattle.std.proofs.lemmas.List.{drop_more, take_more, drop_all, map-append, take-append-le, get_or_append_left, get_or-take, append_cancel_left, nil_from_length}
pub use Rattle.std.proofs.lemmas.List.Elements.{All-from_recursion, All-contains, recursion_from_All}
pub use Rattle.std.proofs.lemmas.Option.{same_Some, none-some}
pub use Rattle.std.proofs.lemmas.Slice.Eq.{bytes_eq-Decides}
pub use Rattle.variant_values.specs.Texts.{IsInByteOrder, byte_cmp, with_text}
pub use Rattle.version_order.specs.Signs.{is_start}
pub use Rattle.version_order.specs.Fronts.{Begins, IsBadAt, IsLongestFront}
pub use Rattle.version_order.specs.Items.{IsList, spelling, Reads}
unfoldable pub use Rattle.version_order.specs.Items.{first_empty}
pub use Rattle.version_order.specs.Machine.{run}
pub use Rattle.version_order.specs.declared.item.Item.{Item as VersionItem}
pub use Rattle.spec_grammar.specs.Signs.{IsName, IsValue, is_white, AreWhite, is_name_byte, name_length, is_value_byte, is_value}
pub use Rattle.spec_grammar.specs.Keys.{IsTarget, Takes, is_colon, is_other, is_piece, IsArch}
unfoldable pub use Rattle.spec_grammar.specs.Keys.{key_of}
pub use Rattle.spec_grammar.specs.Items.{spell_item, spell_more_values, spell_values, spell_list, IsSpecItem, kind_of, mark_byte, IsOver, starts_with_byte, AreListed, AreValues, is_name_end, kind_at, kind_by, is_run_byte, HasShape, GoesOn}
pub use Rattle.spec_grammar.specs.Right.{before_item, may_constrain, may_have_all, may_stand, is_apart, ItemStep, spell_step, spell_steps, before_of, last_of, IsOverLast, is_some_gap, IsRightStep, AreRight, IsCut, HasForm, needs_name, may_end, may_nest, may_name, may_repeat}
pub use Rattle.spec_grammar.specs.Meaning.{add, set_key, set_variant, take_item, mark_value, begin_part, empty_part, spec_with, nest_in, finished_specs, set_platform, set_os, set_targets, set_arch, has_variant, truth, is_dash, PartVariants, set_at, end_of, nest, constrain, end_spec, Becomes}
unfoldable pub use Rattle.spec_grammar.specs.Meaning.{target_of, with_variant, put_all}
pub use Rattle.spec_grammar.specs.Values.{start_run, after, is_whole, Stops}
pub use Rattle.spec_grammar.specs.Forms.{is_flags}
unfoldable pub use Rattle.spec_grammar.specs.Forms.{form_at, form_behind, form_of_sign}
pub use Rattle.spec_grammar.specs.Reading.{empty_place, SpecReading, last_item, place_of_reading, has_gap, IsSpecReading, IsFirst, IsDark, IsItemAt, first_draft, initial_part, Spells, HasNoEmpty}
unfoldable pub use Rattle.spec_grammar.specs.Reading.{take_steps}
pub use Rattle.spec_grammar.specs.Faults.{IsFault, IsWrong, IsAtItem, EndsEarly}
pub use Rattle.spec_grammar.specs.Canonical.{values_text, one_text, variant_text, target_text, more_targets, targets_items, variant_names, word_text, key_text, variants_text, part_compiler_text, targets_text, below_text, AreNamed, AreInOrder, AreValued}
unfoldable pub use Rattle.spec_grammar.specs.Canonical.{part_text, spec_text}
pub use Rattle.spec_grammar.specs.Locals.{IsStuckHere, IsViable, varied, IsListAt, IsListFault, IsCutOff, IsItemFault, IsStuck, Varies, moved, IsAllowedItem, IsFaultHere, Fits, IsItemFaultHere, refused_place, AreStuck, AreValuesAt, IsValuesFault, goes_on, AreFirst}
pub use Rattle.spec_grammar.specs.declared.draft.Draft.{Draft}
pub use Rattle.spec_grammar.specs.declared.fault.Form.{Form}
pub use Rattle.spec_grammar.specs.declared.fault.SpecFault.{SpecFault}
pub use Rattle.spec_grammar.specs.declared.item.SpecItem.{SpecItem}
pub use Rattle.spec_grammar.specs.declared.item.SpecItem.TheVariants.{Name, Versions, Variant, Compiler, Key, Caret}
pub use Rattle.spec_grammar.specs.declared.item.Kind.{Kind}
pub use Rattle.spec_grammar.specs.declared.item.Mark.{Mark}
pub use Rattle.spec_grammar.specs.declared.item.Mark.TheVariants.{Plus, Tilde, Minus}
pub use Rattle.spec_grammar.specs.declared.key.KeyKind.{KeyKind}
pub use Rattle.spec_grammar.specs.declared.mode.Before.{Before}
pub use Rattle.spec_grammar.specs.declared.mode.Mode.{Mode}
pub use Rattle.spec_grammar.specs.declared.part.Part.{Part}
pub use Rattle.spec_grammar.specs.declared.part.Spec.{Spec}
pub use Rattle.spec_grammar.specs.declared.part.TargetItem.{TargetItem}
pub use Rattle.spec_grammar.specs.declared.values.Run.{Run}
pub use Rattle.spec_grammar.specs.declared.values.Run.TheVariants.{One, Many, Target, First, Second, Third}
