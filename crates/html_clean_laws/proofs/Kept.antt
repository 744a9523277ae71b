-- What a cleaner leaves is read as it is.
use Rattle.std.proofs.Common.{◌≡◌, ℕ, true, false, ◌==◌, List, [], ◌∷◌, ◌++◌, refl}
use Rattle.std.proofs.lemmas.Bool.{false≢true}
use Rattle.html_dom_tree.specs.Tree.{tag_node, text_node, element_node, frame_node, NodesView, none, node}
use Rattle.html_names_core.specs.Characters.{is_element_text_char}
use Rattle.html_page_nesting.specs.{Kept.{in_body}, declared.surroundings.Surroundings.{Surroundings}}
use Rattle.typst_html_encode.specs.{Fragments.{fragment_text}, FrameWriters.{Frames}, ReadingBack.{NodesAreNamed}}
use Rattle.typst_html_encode.specs.{References.{numeric, reference_to}, Text.{char_text, escaping_of, node_text, nodes_text}}
use Rattle.typst_html_nesting_laws.proofs.Fragments.{fragments_stay}
use Rattle.typst_html_nesting_laws.specs.FragmentsStay.{begins_marked}
use Rattle.html_clean_policy.specs.Policies.{PolicyView}
use Rattle.html_clean_nodes.specs.Cleaned.{cleaned}
use Rattle.html_clean_laws.proofs.{Cleaned.{cleaned_is_clean}, Named.{nodes_named}, Nested.{page_nested}, Texts.{chosen}}
use Rattle.html_clean_laws.proofs.Written.{nodes_frame_free, nodes_readable, nodes_written}
use Rattle.html_clean_laws.specs.CleanLaws.{CleanIsKept, CleanedIsRead}
use Rattle.html_clean_laws.specs.CleanNodes.{AreClean, IsClean}

-- a text that begins with a character begins with that, or with a reference
module _ (behind rest : List ℕ) where
  abbrev Unmarked : List ℕ → Type 0
  Unmarked s = begins_marked ((s ++ behind) ++ rest) ≡ false

  reference_begins : (c : ℕ) → Unmarked (reference_to c)
  unfolding numeric
  reference_begins c = chosen Unmarked (c == 38) refl (chosen Unmarked (c == 60) refl
      (chosen Unmarked (c == 62) refl (chosen Unmarked (c == 34) refl
      (chosen Unmarked (c == 39) refl refl))))

  char_begins : (c : ℕ) → (c == 0xfeff) ≡ false → Unmarked (char_text (escaping_of false) c)
  char_begins c h = chosen Unmarked (is_element_text_char c) h (reference_begins c)

text_unmarked : (p : PolicyView) (frames : Frames) (around : Surroundings) (ns : NodesView) →
    AreClean p around true ns → begins_marked (fragment_text frames ns) ≡ false
unfolding IsClean AreClean node_text nodes_text
text_unmarked p frames around none clean = refl
text_unmarked p frames around (node (tag_node t) ns) clean = absurd clean.0
text_unmarked p frames around (node (text_node [] span) ns) clean =
    absurd (false≢true clean.0.some)
text_unmarked p frames around (node (text_node (c ∷ cs) span) ns) clean =
    char_begins _ _ c (clean.0.unmarked refl)
text_unmarked p frames around (node (element_node h kids) ns) clean = refl
text_unmarked p frames around (node (frame_node f) ns) clean = absurd clean.0

pub clean_is_kept : CleanIsKept
clean_is_kept p frames ns sound named clean = record {
  named = named;
  frame_free = nodes_frame_free p in_body true ns clean;
  readable = nodes_readable p sound frames in_body true ns clean;
  clean = nodes_written p sound frames in_body true ns clean;
  nested = page_nested p ns clean;
  unmarked = text_unmarked p frames in_body ns clean;
}

pub cleaned_is_read : CleanedIsRead
unfolding NodesAreNamed
cleaned_is_read p frames limit ns sound named deep = fragments_stay frames limit (cleaned p ns)
    (clean_is_kept p frames (cleaned p ns) sound (nodes_named p in_body none ns tt named)
    (cleaned_is_clean p ns sound)) deep
