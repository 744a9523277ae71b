use Rattle.typst_html_links_laws.proofs.SoundLinks.{made_links_are_sound}
use Rattle.typst_html_links_laws.proofs.laws.made_links_are_sound.Goals as goal

pub returns : goal.returns
returns c = made_links_are_sound c.args.document.now
