-- The pure values of outputs, of information and of documents.
use Rattle.std.specs.Prelude.{option_map}
use Rattle.html_names_core.specs.Texts.{texts_view}
use Rattle.html_dom_tree.specs.Views.{text_view, optional_text_view, nodes_view}
use Rattle.html_dom_document.specs.{Documents.{LocaleView, InfoView, OutputView, DocumentView}, Introspectors.{introspector_view}}
use Rattle.html_dom_document.specs.declared.{document.HtmlDocument.{HtmlDocument}, info.DocumentInfo.{DocumentInfo}, info.Locale.{Locale}}
use Rattle.html_dom_document.specs.declared.output.HtmlOutput.{HtmlOutput}

abbrev pub locale_view : Locale → LocaleView
locale_view l = record { lang = text_view l.lang; region = optional_text_view l.region }

abbrev pub info_view : DocumentInfo → InfoView
info_view i = record {
  title = optional_text_view i.title;
  description = optional_text_view i.description;
  author = texts_view i.author.items;
  keywords = texts_view i.keywords.items;
  locale = option_map locale_view i.locale;
}

abbrev pub output_view : HtmlOutput → OutputView
output_view o = record { nodes = nodes_view o.nodes.items; root = o.root_index }

abbrev pub document_view : HtmlDocument → DocumentView
document_view d = record {
  output = output_view d.output;
  info = info_view d.info;
  introspector = introspector_view d.introspector;
}
