-- Document types by what stands between `<!DOCTYPE` and `>`: rows for each state of HTML Standard
-- 13.2.5.53 to 13.2.5.68 in which one ends, and each condition of 13.2.6.4.1.
use Rattle.std.specs.{List.{list_all, list_any}, Prelude.{◌≡◌, ℕ, Bool, true, false, refl, List, [], ◌∷◌, ◌++◌, codes}}
use Rattle.html_page_stack.specs.declared.modes.TableRule.TheVariants.{ClosesP}
use Rattle.html_page_read.specs.DocumentTypes.{document_type, has_quirky_front, is_quirky, is_quirky_alone, is_quirky_system, is_quirky_word, table_rule}

pub html_is_plain : table_rule (codes " html") ≡ ClosesP
unfolding table_rule
html_is_plain = refl

abbrev makes_quirky : (inner : List ℕ) → Bool
makes_quirky inner = is_quirky (document_type inner)

abbrev html_4 : (rest : List ℕ) → List ℕ
html_4 rest = codes " HTML public \"-//w3c//dtd html 4.01" ++ rest

pub plain : list_any makes_quirky
    (codes "html" ∷ codes "\n\tHtMl " ∷ codes " html system 'about:legacy-compat'"
    ∷ codes " html SYSTEM\"about:legacy-compat\"junk\"" ∷ html_4 (codes "//EN\"")
    ∷ html_4 (codes "//EN\" 'strict.dtd'") ∷ html_4 (codes " transitional//\"''")
    ∷ html_4 (codes " Frameset//EN\" \"a'\" b") ∷ []) ≡ false
unfolding has_quirky_front is_quirky_alone is_quirky_system is_quirky_word
plain = refl

pub quirky : list_all makes_quirky
    (codes "" ∷ codes " svg" ∷ codes " htmlpublic ''" ∷ codes " html publi" ∷ codes " html public"
    ∷ codes " html public x" ∷ codes " html public \"x" ∷ codes " html public 'x\""
    ∷ codes " html public '' x" ∷ codes " html public '' 'x" ∷ codes " html system"
    ∷ codes " html system x" ∷ codes " html system \"x'" ∷ codes " html public'HTML'"
    ∷ codes " html public '-/W3C/DTD HTML 4.0 Transitional/EN' ''"
    ∷ codes " html public '-//W3O//DTD W3 HTML Strict 3.0//EN//'"
    ∷ codes " html public '+//Silmaril//dtd html Pro v0r11 19970101//EN' ''"
    ∷ codes " html public '-//WebTechs//DTD Mozilla HTML//EN' ''"
    ∷ codes " html system 'http://www.ibm.com/data/dtd/v11/ibmxhtml1-transitional.dtd'"
    ∷ html_4 (codes " transitional//EN\"") ∷ html_4 (codes " Frameset//\" ") ∷ []) ≡ true
unfolding has_quirky_front is_quirky_alone is_quirky_system is_quirky_word
quirky = refl
