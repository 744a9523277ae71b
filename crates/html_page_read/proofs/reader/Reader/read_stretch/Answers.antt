use Rattle.std.proofs.Common.{ap, ◌∙◌}
use Rattle.html_page_read.proofs.PageStretches.{state_kept, stretch_read}
use Rattle.html_page_read.specs.{PageReaderViews.{reader_of, reading_of}, PageStretches.{in_data}}
use Rattle.html_page_read.proofs.reader.Reader.read_stretch.Goals as goal

pub returns : goal.returns
returns c =
    let self = c.args.self.now in
    let now = c.add_stretch.new.self in
    stretch_read (reader_of self) (reader_of (record self { reading = now })) c.args.text.now
    c.cut_common.result.0.now c.cut_common.result.1.now c.requires.taken c.cut_common.ensures
    (ap (λ s. record { state = s; reading = reading_of now })
    (state_kept self.state self now ∙ ap (λ q. q.state) c.requires.taken.state)
    ∙ ap in_data c.in_ok-add_stretch.ensures)
