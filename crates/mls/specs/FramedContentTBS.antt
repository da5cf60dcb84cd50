-- FramedContentTBS: what it stands for, its format and its law.
use Rattle.std.specs.Prelude.{◌==◌, ◌||◌}
use Rattle.tls_codec.specs.OwnMessages.{Tree, Join, option_plain, Format, pair_tree, pair_format, then_format, present_format, MeetsLaws, pair_meets, then_meets, present_meets}
use Rattle.tls_codec_cases.specs.Held.{first_of, second_of}
use Rattle.mls_group.specs.ProtocolVersionMls10.{protocol_version_mls10_plain, protocol_version_mls10_format, protocol_version_mls10_meets}
use Rattle.mls.specs.WireFormat.{wire_format_plain, wire_format_format, wire_format_meets}
use Rattle.mls.specs.FramedContent.{framed_content_plain, framed_content_format, framed_content_meets}
use Rattle.mls_group.specs.GroupContext.{group_context_plain, group_context_format, group_context_meets}
use Rattle.mls.specs.SenderType.{sender_type_selected}
use Rattle.mls.specs.FramedContent.{framed_content_sender_type}
use Rattle.mls.specs.FramedContent.{framed_content_content_type}
use Rattle.mls.specs.declared.framed_content_tbs.FramedContentTBS.{FramedContentTBS}

abbrev pub framed_content_tbs_plain : FramedContentTBS → Tree
framed_content_tbs_plain v =
    pair_tree
    (pair_tree (protocol_version_mls10_plain v.version.now) (wire_format_plain v.wire_format.now))
    (Join (framed_content_plain v.content.now) (option_plain group_context_plain v.context.now))

abbrev pub framed_content_tbs_format : Format
framed_content_tbs_format =
    pair_format
    (pair_format protocol_version_mls10_format wire_format_format)
    (then_format framed_content_format (λ c. present_format ((sender_type_selected (framed_content_sender_type c) == 1)
    || (sender_type_selected (framed_content_sender_type c) == 4)) group_context_format))

pub framed_content_tbs_meets : MeetsLaws framed_content_tbs_format
framed_content_tbs_meets =
    pair_meets
    (pair_meets protocol_version_mls10_meets wire_format_meets)
    (then_meets framed_content_meets (λ c. present_meets ((sender_type_selected (framed_content_sender_type c) == 1)
    || (sender_type_selected (framed_content_sender_type c) == 4)) group_context_meets))

-- the ContentType of a value, from what the value stands for
abbrev pub framed_content_tbs_content_type : Tree → Tree
framed_content_tbs_content_type c = framed_content_content_type (first_of (second_of c))
