-- A link that leads among the names of a tree leads among fewer of them, its own being one.
use Rattle.std.proofs.Common.{◌≡◌, ℕ, Bool, true, false, true≢false, List, [], ◌∷◌, chars, Some, None, refl, sym, ap, ◌∙◌}
use Rattle.std.specs.Prelude.{if◌then◌else◌}
use Rattle.html_links.specs.{Indicated.{LeadsTo, decoding, indicated_at, indicated_by, indicated_name, url_fragment}, TreeNames.{Name}}

module _ (few many : Name → Bool) (among : (n : Name) → few n ≡ true → many n ≡ true)
    (name : Name) (there : few name ≡ true) where
  indicated_within : (as_it_is decoded : Name) →
      indicated_by many as_it_is decoded ≡ Some name →
      indicated_by few as_it_is decoded ≡ Some name
  indicated_within as_it_is decoded = by (many as_it_is) (many decoded) refl (few as_it_is) refl
    where
      by : (m d : Bool) → many as_it_is ≡ m → (f : Bool) → few as_it_is ≡ f →
          (if m then Some as_it_is else (if d then Some decoded else None)) ≡ Some name →
          (if f then Some as_it_is else (if few decoded then Some decoded else None)) ≡ Some name
      by true d m_is true f_is is = is
      by true d m_is false f_is is =
          let same : as_it_is ≡ name = cc in
          absurd (true≢false (sym there ∙ (ap few (sym same) ∙ f_is)))
      by false d m_is true f_is is =
          absurd (true≢false (sym (among as_it_is f_is) ∙ m_is))
      by false true m_is false f_is is =
          let same : decoded ≡ name = cc in
          rw (ap few same ∙ there) is
      by false false m_is false f_is is = cc

  at_within : (fragment : List ℕ) → indicated_at many fragment ≡ Some name →
      indicated_at few fragment ≡ Some name
  at_within [] is = is
  at_within (c ∷ cs) is = indicated_within (c ∷ cs) (chars (decoding (c ∷ cs))) is

  pub leads_within : (href : List ℕ) → LeadsTo many href name → LeadsTo few href name
  unfolding indicated_name
  leads_within href lead = record {
    fragment = lead.fragment;
    taken = lead.taken;
    indicates = at_within (url_fragment lead.fragment) lead.indicates;
  }
