-- The links of a document that lead nowhere, as JSON:
--     {"dead_links":[{"destination":n,"span":n},..]}
use Rattle.std.specs.Prelude.{ℕ, List, map, codes}
use Rattle.serde_json.specs.{Data.{Data, number, array, object, unsigned, member, no_members}, View.{items_of}, Written.{compact_text}}
use Rattle.html_anchors.specs.Links.{DeadLinkView}
use Rattle.typst_html_run.specs.Answers.{Answer, text_answer, refused_answer, bad_input}
use Rattle.typst_html_ffi.specs.CallReplies.{call_dead_links, document_call_answer}

-- the destination and the span of a link, as JSON
abbrev pub dead_link_data : DeadLinkView → Data
dead_link_data link = object (
    member (codes "destination") (number (unsigned link.1)) (
    member (codes "span") (number (unsigned link.0)) no_members))

abbrev pub dead_links_data : List DeadLinkView → Data
dead_links_data links =
    object (member (codes "dead_links") (array (items_of (map dead_link_data links))) no_members)

-- the answer with these bytes instead of its text, if it has one
abbrev pub in_place_of_text : (bytes : List ℕ) → Answer → Answer
in_place_of_text bytes (text_answer text) = text_answer bytes
in_place_of_text bytes (refused_answer r) = refused_answer r
in_place_of_text bytes (bad_input place) = bad_input place

-- the answer to an input that spells a document, with its dead links instead of its text
abbrev pub dead_links_answer : (limit : ℕ) (input : List ℕ) → Answer
dead_links_answer limit input =
    in_place_of_text (compact_text (dead_links_data (call_dead_links 0 1 limit input)))
    (document_call_answer 0 1 limit input)
