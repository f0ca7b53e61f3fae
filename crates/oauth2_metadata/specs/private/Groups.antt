-- What each group reads depends on the members of its names only.
use Rattle.std.proofs.Common.{◌≡◌, Ok}
use Rattle.serde_json.specs.Data.{Members}
use Rattle.oauth2_body_members.specs.Table.{names_of}
use Rattle.oauth2_member_rows.specs.Rows.{Agree}
use Rattle.oauth2_member_rows.proofs.Tables.{table_depends}
use Rattle.oauth2_metadata.specs.Metadata.{endpoint_group, endpoint_table, endpoint_in, supported_group, supported_table, supported_in, auth_method_group, auth_method_table, auth_method_in, signing_algorithm_group, signing_algorithm_table, signing_algorithm_in, page_group, page_table, page_in, service_group, service_table, service_in}

pub endpoints_depend : (a b : Members) → Agree (names_of endpoint_table) a b → endpoint_in a ≡ endpoint_in b
unfolding endpoint_in
endpoints_depend a b h = table_depends endpoint_table (Ok endpoint_group) a b h

pub supported_depends : (a b : Members) → Agree (names_of supported_table) a b → supported_in a ≡ supported_in b
unfolding supported_in
supported_depends a b h = table_depends supported_table (Ok supported_group) a b h

pub auth_methods_depend : (a b : Members) → Agree (names_of auth_method_table) a b → auth_method_in a ≡ auth_method_in b
unfolding auth_method_in
auth_methods_depend a b h = table_depends auth_method_table (Ok auth_method_group) a b h

pub signing_algorithms_depend : (a b : Members) → Agree (names_of signing_algorithm_table) a b → signing_algorithm_in a ≡ signing_algorithm_in b
unfolding signing_algorithm_in
signing_algorithms_depend a b h = table_depends signing_algorithm_table (Ok signing_algorithm_group) a b h

pub pages_depend : (a b : Members) → Agree (names_of page_table) a b → page_in a ≡ page_in b
unfolding page_in
pages_depend a b h = table_depends page_table (Ok page_group) a b h

pub services_depend : (a b : Members) → Agree (names_of service_table) a b → service_in a ≡ service_in b
unfolding service_in
services_depend a b h = table_depends service_table (Ok service_group) a b h
