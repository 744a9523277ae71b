-- Clean information of a document: its texts have only text characters. A document with it, made
-- from clean items in plain flow, can be written.
use Rattle.std.specs.{List.{list_all}, Prelude.{◌≡◌, ℕ, Bool, true, ◌&&◌, List, [], Option, Some, None}}
use Rattle.html_names_core.specs.Characters.{all, is_text_char}
use Rattle.html_dom_document.specs.Documents.{LocaleView, InfoView}
use Rattle.html_anchors.specs.Links.{Anchors, anchor_hrefs, root_with_links}
use Rattle.typst_html_encode.specs.{FrameWriters.{Frames}, declared.options.HtmlOptions.{HtmlOptions}}
use Rattle.html_flow_convert.specs.Items.{ItemsView, no_items}
use Rattle.typst_html_spaces.specs.{CleanItems.{are_clean_items}, CleanNodes.{is_clean_text}, PlainFlow.{is_plain_flow}}
use Rattle.typst_html_export.specs.Exported.{linked_root, root_faults}

abbrev pub are_clean_texts : List (List ℕ) → Bool
are_clean_texts = list_all (all is_text_char)

abbrev pub is_clean_locale : Option LocaleView → Bool
is_clean_locale None = true
is_clean_locale (Some locale) = all is_text_char locale.lang && is_clean_text locale.region

abbrev pub is_clean_info : InfoView → Bool
is_clean_info info =
    is_clean_text info.title && is_clean_text info.description && are_clean_texts info.author
    && are_clean_texts info.keywords && is_clean_locale info.locale

-- such a document can be written, by any writer of frames, plain and pretty
abbrev pub CleanDocumentsAreWritten : Type 0
CleanDocumentsAreWritten = (frames : Frames) (options : HtmlOptions) (info : InfoView)
    (items : ItemsView) → is_plain_flow items ≡ true → are_clean_items items ≡ true →
    is_clean_info info ≡ true → root_faults frames options (linked_root info items no_items) ≡ []

-- such a document can be written with the `href` of its links too, whatever names they lead to,
-- among any places
abbrev pub CleanLinkedDocumentsAreWritten : Type 0
CleanLinkedDocumentsAreWritten = (frames : Frames) (options : HtmlOptions) (info : InfoView)
    (items : ItemsView) → is_plain_flow items ≡ true → are_clean_items items ≡ true →
    is_clean_info info ≡ true → (is_place : List ℕ → Bool) (anchor : Anchors) →
    root_faults frames options
    (root_with_links (anchor_hrefs is_place anchor) (linked_root info items no_items)) ≡ []
