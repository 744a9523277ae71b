-- The names of elements that a policy allows: they are not raw, nor those that are read in another way.
use Rattle.std.proofs.Common.{◌≡◌, ℕ, true, false, not, List, codes, map, refl, sym, ◌∙◌}
use Rattle.std.proofs.lemmas.Bool.{and_parts, both_ways, false_from_ne_true, not-true}
use Rattle.html_names_core.specs.{Kinds.{foreign_self_closing_names, is_escapable_raw, is_foreign_self_closing, is_raw}, Names.{listed_names, stands_in}}
use Rattle.html_page_names.specs.PageNames.{of}
use Rattle.html_page_names.specs.declared.kind.Kind.TheVariants as kind
use Rattle.html_page_nesting.specs.Contents.{is_listing}
use Rattle.typst_html_nesting_laws.proofs.KindFacts.{agree_in, escapable_same, names, outside_of, script_or_style}
use Rattle.html_clean_policy.proofs.Allowed.{allowed_name}
use Rattle.html_clean_policy.specs.Policies.{PolicyView, allows, is_dropped, is_never_kept, unkept_names}

module _ (p : PolicyView) (n : List ℕ) (h : allows p n ≡ true) where
  pub not_dropped : is_dropped n ≡ false
  unfolding allows
  not_dropped = not-true (is_dropped n) (and_parts (stands_in p.elements n) (not (is_dropped n))
      (and_parts _ (not (is_never_kept n)) h).0).1

  pub not_script : of kind.Script n ≡ false
  not_script =
      outside_of (of kind.Raw) kind.Script n (unfold names in refl) (allowed_name p n h).no_raw

  -- nor is it raw to the writer
  pub not_written_raw : is_raw n ≡ false
  not_written_raw = sym (script_or_style n) ∙ outside_of (of kind.Raw) kind.ScriptOrStyle n
      (unfold names in refl) (allowed_name p n h).no_raw

  pub not_escapable : is_escapable_raw n ≡ false
  not_escapable = sym (escapable_same n) ∙ outside_of (of kind.Raw) kind.EscapableRaw n
      (unfold names in refl) (allowed_name p n h).no_raw

  -- it is none of names that no element keeps
  none_of_unkept : (ms : List (List ℕ)) → map (stands_in unkept_names) ms ≡ map (λ m. true) ms →
      stands_in ms n ≡ true → ⊥
  none_of_unkept ms all e = both_ways _ (allowed_name p n h).no_unkept
      (agree_in (stands_in unkept_names) (λ m. true) ms n all e)

  pub not_listing : is_listing n ≡ false
  unfolding is_listing
  not_listing = false_from_ne_true _
      (none_of_unkept (listed_names (codes "listing")) (unfold names in refl))

  pub not_self_closing : is_foreign_self_closing n ≡ false
  unfolding is_foreign_self_closing
  not_self_closing = false_from_ne_true _
      (none_of_unkept foreign_self_closing_names (unfold names in refl))
