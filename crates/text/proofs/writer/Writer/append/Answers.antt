use Rattle.std.proofs.Common.{refl, arith, take, sym, ◌+◌, ◌-◌}
use Rattle.std.proofs.lemmas.Slice.{put_mid-paste}
use Rattle.text.proofs.Copying.{part_size, appended_copy}
use Rattle.text.proofs.writer.Writer.append.Goals as goal

pub returns : goal.returns
returns c =
    let o = c.args.self.now.out.now in
    let w = c.args.bytes.now in
    let a = c.args.self.now.at in
    let k = c.min-count.result in
    let inside = c.args.self.now.inside in
    let size = part_size o w a k inside c.min-count.ensures in
    let part = put_mid-paste a (a + k - a) o _ (take k w) k c.copy_from_slice.ensures.after (omega arith) (sym size) in
    record { appended = record { same = refl; appended = rw part (appended_copy o w a k inside c.min-count.ensures) } }
