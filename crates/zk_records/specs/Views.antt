-- What a record is, without where it lies in memory.
use Rattle.std.specs.Option.{option_map}
use Rattle.zk_jute.specs.Layout.{Value}
use Rattle.zk_records.specs.declared.connect_request.ConnectRequest.{ConnectRequest}
use Rattle.zk_records.specs.declared.connect_response.ConnectResponseRef.{ConnectResponseRef}
use Rattle.zk_records.specs.declared.connect_response.ConnectResponse.{ConnectResponse}
use Rattle.zk_records.specs.Layouts.{connect_request}
use Rattle.zk_records.specs.Response.{Response}

abbrev pub request_of : {A : Type 0} → ConnectRequest A → Value connect_request
request_of r = (r.protocol_version, (r.last_zxid_seen, (r.time_out, (r.session_id, (r.passwd, r.read_only)))))

abbrev pub response_of : {A : Type 0} → ConnectResponse A → Response
response_of r = record { front = (r.protocol_version, (r.time_out, (r.session_id, r.passwd))); read_only = r.read_only }

abbrev pub lent_response_of : ConnectResponseRef → Response
lent_response_of r =
    record { front = (r.protocol_version, (r.time_out, (r.session_id, option_map (λ s. s.now) r.passwd.bytes))); read_only = r.read_only }
