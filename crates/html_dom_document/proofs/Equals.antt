-- Locales are equal where both texts are, and information where all its parts are.
use Rattle.std.proofs.Common.{◌≡◌, ◌&&◌, Bool, List, String, Global, Option, ap}
use Rattle.std.specs.{Bool.{Decides}, Option.{option_eq}, String.{string_eq}, Cmp.Lexicographic.{pointwise}}
use Rattle.html_dom_tree.specs.Views.{text_view, optional_text_view}
use Rattle.html_dom_document.specs.{Documents.{LocaleView, InfoView}, Views.{locale_view, info_view}}
use Rattle.html_dom_document.specs.declared.info.{DocumentInfo.{DocumentInfo}, Locale.{Locale}}
use Rattle.html_names_core.specs.Texts.{texts_view}
use Rattle.html_values_css.proofs.Equals.{lists_decide, options_decide, pairs_decide, text_decides}

optional_text_decides : (a b : Option (String Global)) →
    Decides (option_eq string_eq a b) (optional_text_view a ≡ optional_text_view b)
optional_text_decides = options_decide string_eq text_view text_decides

texts_decide : (xs ys : List (String Global)) →
    Decides (pointwise string_eq xs ys) (texts_view xs ≡ texts_view ys)
texts_decide = lists_decide string_eq text_view text_decides

abbrev same_locales : Locale → Locale → Bool
same_locales a b = string_eq a.lang b.lang && option_eq string_eq a.region b.region

pub locale_decides : (a b : Locale) → Decides (same_locales a b) (locale_view a ≡ locale_view b)
locale_decides a b =
    let parts = pairs_decide (string_eq a.lang b.lang) (option_eq string_eq a.region b.region)
    (text_decides a.lang b.lang) (optional_text_decides a.region b.region) in (
      λ h. ap (λ p. record { lang = p.0; region = p.1 }) (parts.0 h),
      λ e. parts.1 (ap (λ (l : LocaleView). (l.lang, l.region)) e),
    )

pub info_decides : (a b : DocumentInfo) →
    Decides (option_eq string_eq a.title b.title
    && (option_eq string_eq a.description b.description
    && (pointwise string_eq a.author.items b.author.items
    && (pointwise string_eq a.keywords.items b.keywords.items
    && option_eq same_locales a.locale b.locale)))) (info_view a ≡ info_view b)
info_decides a b =
    let parts = pairs_decide _ _ (optional_text_decides a.title b.title)
    (pairs_decide _ _ (optional_text_decides a.description b.description)
    (pairs_decide _ _ (texts_decide a.author.items b.author.items)
    (pairs_decide _ _ (texts_decide a.keywords.items b.keywords.items)
    (options_decide same_locales locale_view locale_decides a.locale b.locale)))) in (
      λ h. ap (λ p. record {
        title = p.0;
        description = p.1.0;
        author = p.1.1.0;
        keywords = p.1.1.1.0;
        locale = p.1.1.1.1;
      }) (parts.0 h),
      λ e. parts.1 (ap
          (λ (i : InfoView). (i.title, (i.description, (i.author, (i.keywords, i.locale))))) e),
    )
