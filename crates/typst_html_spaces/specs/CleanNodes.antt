-- Clean nodes: plain nodes whose texts, values and labels hold text characters alone, and in which
-- no void element has a child. So they can be written, with anchors too.
use Rattle.std.specs.{List.{list_all}, Prelude.{◌≡◌, ℕ, Bool, true, not, ◌==◌, List, [], Option, None, Some}}
use Rattle.html_names_core.specs.{Characters.{all, is_text_char}, Kinds.{is_void}, Texts.{TextPair}}
use Rattle.html_dom_tree.specs.{Tags.{TagView, starts, ends}, Tree.{Head, NodesView}}
use Rattle.typst_html_encode.specs.{ExportFaults.{nodes_faults}, FrameWriters.{Frames}}
use Rattle.typst_html_spaces.specs.{Anchored.{Anchored}, DeepNodes.{Wanted, HoldsOfAll}, PlainFlow.{is_plain_name}}

-- whether a text, if there is one, has text characters alone
abbrev pub is_clean_text : Option (List ℕ) → Bool
is_clean_text None = true
is_clean_text (Some s) = all is_text_char s

abbrev pub is_clean_tag : TagView → Bool
is_clean_tag (starts location label dest) = is_clean_text label
is_clean_tag (ends location) = true

abbrev pub are_clean_values : List TextPair → Bool
are_clean_values = list_all (λ p. all is_text_char p.1)

abbrev pub is_no_return : ℕ → Bool
is_no_return c = not (c == 13)

-- a text of text characters alone; directly under an element with the flag `pre_span`, it has no
-- carriage return
abbrev pub IsCleanText : (pre_span : Bool) → List ℕ → Type 0
IsCleanText pre_span s =
    (all is_text_char s ≡ true) × (pre_span ≡ true → all is_no_return s ≡ true)

pub record IsCleanHead (h : Head) (is_empty : Bool) : Type 0 where
  pub named : is_plain_name h.name ≡ true
  pub values : are_clean_values h.attrs ≡ true
  pub void : is_void h.name ≡ true → is_empty ≡ true

abbrev pub clean : Wanted
clean = record {
  head = IsCleanHead;
  text = IsCleanText;
  tag = λ t. is_clean_tag t ≡ true;
  frame = ⊥;
}

-- nodes that are clean at any depth
abbrev pub AreCleanNodes : (pre_span : Bool) → NodesView → Type 0
AreCleanNodes = HoldsOfAll clean

-- clean nodes have no fault
abbrev pub CleanNodesAreWritten : Type 0
CleanNodesAreWritten = (pre_span : Bool) (ns : NodesView) → AreCleanNodes pre_span ns →
    (frames : Frames) (pretty : Bool) → nodes_faults frames pre_span pretty ns ≡ []

-- a value of text characters alone
abbrev pub IsCleanValue : List ℕ → Type 0
IsCleanValue value = all is_text_char value ≡ true

-- clean nodes stay clean with anchors and with an `href` of links
abbrev pub AnchorsKeepCleanNodes : Type 0
AnchorsKeepCleanNodes = (pre_span : Bool) (ns ms : NodesView) →
    Anchored (λ a value. IsCleanValue value) ns ms → AreCleanNodes pre_span ns →
    AreCleanNodes pre_span ms
