-- Labels that are no labels of UTF-8 or UTF-16.
use Rattle.std.{proofs.Common.{◌≡◌, ℕ, false, true, List, ◌++◌, map, None, Some}, specs.Char.{to_ascii_lowercase}}
use Rattle.html_names_core.specs.Names.{stands_in}
use Rattle.html_page_encoding.specs.Labels.{label_encoding, user_labels, utf16_labels, utf8_labels, windows_labels}
use Rattle.html_page_encoding.specs.declared.encoding.Encoding.TheVariants as encoding

module _ (label : List ℕ)
    (other : stands_in (utf8_labels ++ utf16_labels) (map to_ascii_lowercase label) ≡ false) where
  pub windows_label :
      stands_in (windows_labels ++ user_labels) (map to_ascii_lowercase label) ≡ true →
      label_encoding label ≡ Some encoding.Windows1252
  unfolding label_encoding
  windows_label is = rw (other, is)

  pub no_label : stands_in (windows_labels ++ user_labels) (map to_ascii_lowercase label) ≡ false →
      label_encoding label ≡ None
  unfolding label_encoding
  no_label is_not = rw (other, is_not)
