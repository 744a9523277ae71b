-- The elements `html`, `head` and `body`: their names, modes and start tags.
use Rattle.std.proofs.Common.{◌≡◌, ℕ, Bool, true, false, List, [], ◌∷◌, codes, length, map, refl, sym, ap, ◌∙◌}
use Rattle.std.{proofs.lemmas.Slice.Eq.{bytes_eq-Decides}, specs.Prelude.{◌==◌, if◌then◌else◌, unwrap_or}}
use Rattle.html_names_core.specs.{Kinds.{is_escapable_raw, is_foreign_self_closing, is_raw, is_void}, Names.{listed_names, stands_in}}
use Rattle.html_page_nesting.specs.Ancestors.{begun_space}
use Rattle.html_page_nesting.specs.declared.reading.Space.TheVariants as nest
use Rattle.typst_html_encode.specs.Reader.{drops_feed}
use Rattle.html_page_names.specs.{ForeignNames.{lowered}, PageNames.{kind_names, of}, declared.kind.Kind.{Kind}}
use Rattle.html_page_names.specs.declared.kind.Kind.TheVariants as kind
use Rattle.html_page_stack.specs.{OpenElements.{OpenElement, html_mode, mode, mode_inside, named_mode}, Pages.{Page, StartTag, Start, opened, Taken}}
use Rattle.html_page_stack.specs.declared.modes.Space.TheVariants as spaces
use Rattle.html_page_tree.specs.PageBodies.{before as before_element}
use Rattle.typst_html_nesting_laws.proofs.KindFacts.{AllFail, agree_in, agree_of, names}

-- what is known of the names `html`, `head` and `body`
pub record IsPart (n : List ℕ) : Type 0 where
  pub small : lowered n ≡ n
  pub closed_alone : is_foreign_self_closing n ≡ false
  pub void : is_void n ≡ false
  pub raw : of kind.Raw n ≡ false
  pub plaintext : of kind.Plaintext n ≡ false
  pub form : of kind.Form n ≡ false
  pub template : of kind.Template n ≡ false
  pub written_raw : is_raw n ≡ false
  pub escapable : is_escapable_raw n ≡ false
  pub fed : drops_feed n ≡ false
  pub drops : of kind.DropsFeed n ≡ false
  pub space : begun_space n ≡ nest.Html

abbrev pub part_names : List (List ℕ)
part_names = listed_names (codes "html head body")

pub part_of : (n : List ℕ) → stands_in part_names n ≡ true → IsPart n
unfolding names
part_of n h = record {
  small = agree_in lowered (λ m. m) part_names n refl h;
  closed_alone = none is_foreign_self_closing refl;
  void = none is_void refl;
  raw = none (of kind.Raw) refl;
  plaintext = none (of kind.Plaintext) refl;
  form = none (of kind.Form) refl;
  template = none (of kind.Template) refl;
  written_raw = none is_raw refl;
  escapable = none is_escapable_raw refl;
  fed = none drops_feed refl;
  drops = none (of kind.DropsFeed) refl;
  space = agree_in begun_space (λ m. nest.Html) part_names n refl h;
} where
  none : (test : List ℕ → Bool) → AllFail test part_names → test n ≡ false
  none test all = agree_in test (λ m. false) part_names n all h

-- a kind of one name
pub name_of : (k : Kind) (name n : List ℕ) → kind_names k ≡ name ∷ [] → of k n ≡ true → n ≡ name
name_of k name n e h = agree_of (λ m. m) (λ m. name) k n
    (ap (map (λ m. m)) e ∙ sym (ap (map (λ m. name)) e)) h

-- their start tags
pub begins_named : (name : List ℕ) (tag : StartTag) (p : Page) → tag.name ≡ name →
    before_element name (Start tag) p ≡ Taken (opened tag.name tag.attrs p)
begins_named name tag p e =
    rw ((bytes_eq-Decides tag.name name).1 e) (ap (λ n. Taken (opened n tag.attrs p)) (sym e))

-- their modes

pub mode_of : (name : List ℕ) (o : OpenElement) (os : List OpenElement) → o.head.name ≡ name →
    o.space ≡ spaces.Html → mode (o ∷ os) ≡ unwrap_or (named_mode name os)
    (if length os == 0 then html_mode o.children else mode_inside (mode os))
mode_of name o os n e = rw (e, n) refl
